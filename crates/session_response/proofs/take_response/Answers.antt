-- `session_response::take_response` meets its contract: the assignment, or else 16 or 17.
-- Assumes nothing.
use borrow.Author.Rules.{rules}
use mathlib.Core.Path.{refl}
use mathlib.Core.Logic.{inr}
use Rattle.session_response.proofs.CallLaws.{response-epoch, assignment-answers, denial-answers}
use Rattle.session_response.proofs.take_response.Goals as goal

pub take_assignment-requires : goal.take_assignment-requires
take_assignment-requires c =
    record { min_store_in_bounds = c.requires.min_store_in_bounds; assignment_field = (inr refl, c.requires.b_len); epoch_value = response-epoch c.args.store.now c.args.message.now _ c.read_response-head.ensures.epoch }

pub returns-then-head : goal.returns-then-head
returns-then-head c =
    assignment-answers c.args.store.now c.args.message.now c.read_response-head.result c.read_response-head.ensures _ _ c.if-head.true
    c.take_assignment.ensures

pub returns : goal.returns
returns c =
    denial-answers c.args.store.now c.args.message.now c.read_response-head.result c.read_response-head.ensures (search rules) _
    c.denial.result c.denial.ensures
