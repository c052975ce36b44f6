-- `session_response::scanned` meets its contract: 3 to 7, or what the message says.
-- Assumes nothing.
use mathlib.Core.Path.{sym, ap, ◌∙◌}
use mathlib.Core.Bool.{not}
use Rattle.wire_readers.specs.Messages.{response_of}
use Rattle.session_store.proofs.StoreLaws.{identity-valid}
use Rattle.session_response.proofs.CallLaws.{refused-out, given_out, message-bad, message-valid, valid-mismatch}
use Rattle.session_response.proofs.scanned.Goals as goal

pub take_response-intake-requires : goal.take_response-intake-requires
take_response-intake-requires c =
    record { min_store_in_bounds = (c.requires.min_store_in_bounds.0, identity-valid c.args.r c.args.store.now (ap not c.requires.min_store_in_bounds.1)); b_len = c.requires.b_len }

pub returns-then-incarnation-expected : goal.returns-then-incarnation-expected
returns-then-incarnation-expected c =
    refused-out c.args.r c.args.store.now c.refuse-then-incarnation-expected.result _ _ c.refuse-then-incarnation-expected.ensures
    (message-valid c.args.r c.args.store.now c.args.message.now c.args.incarnation
    (sym c.first_fault.ensures ∙ c.in-Ok.is)
    ∙ valid-mismatch c.args.r c.args.store.now (response_of c.args.message.now) c.args.incarnation c.if-incarnation-expected.true)

pub returns-in-Err : goal.returns-in-Err
returns-in-Err c =
    refused-out c.args.r c.args.store.now c.refuse.result _ _ c.refuse.ensures
    (message-bad c.args.r c.args.store.now c.args.message.now c.args.incarnation c.in-Err.x
    (sym c.first_fault.ensures ∙ c.in-Err.is))

pub returns-else-incarnation-expected : goal.returns-else-incarnation-expected
returns-else-incarnation-expected c =
    given_out c.args.r c.args.store.now c.answered.result c.answered.new.store _ _
    (message-valid c.args.r c.args.store.now c.args.message.now c.args.incarnation
    (sym c.first_fault.ensures ∙ c.in-Ok.is))
    (c.answered.ensures (response_of c.args.message.now) c.take_response-intake.ensures.is)
