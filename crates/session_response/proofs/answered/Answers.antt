-- `session_response::answered` meets its contract: 23, then what the intake answered.
-- Assumes nothing.
use Rattle.std.specs.Prelude.{ℕ, Result}
use mathlib.Core.Path.{ap, ◌∙◌, subst}
use Rattle.session_intake.specs.Taken.{content_from, Ready}
use Rattle.session_response.proofs.CallLaws.{refused-out, given_out, content-refused, content-taken, valid-mismatch, valid-says}
use Rattle.session_response.proofs.answered.Goals as goal
use Rattle.refusal.specs.declared.Refusal.{Refusal}

pub returns-then-incarnation-expected : goal.returns-then-incarnation-expected
returns-then-incarnation-expected c = λ w q.
    refused-out c.args.r c.args.store.now c.refuse.result _ _ c.refuse.ensures
    (valid-mismatch c.args.r c.args.store.now w c.args.incarnation c.if-incarnation-expected.true)

pub assigned-requires : goal.assigned-requires
assigned-requires c =
    record { min_store_in_bounds = c.requires.min_store_in_bounds; scratch = subst (λ (x : Result ℕ Refusal). Ready x c.args.b.now) c.in-Ok.is c.requires.ready }

pub returns-in-Err : goal.returns-in-Err
returns-in-Err c = λ w q.
    refused-out c.args.r c.args.store.now c.refuse-in-Err.result _ _ c.refuse-in-Err.ensures
    (valid-says c.args.r c.args.store.now w c.args.incarnation c.if-incarnation-expected.false
    ∙ content-refused c.args.r c.args.store.now _ c.in-Err.x
    (q ∙ ap (λ (y : Result ℕ Refusal). content_from y c.args.b.now) c.in-Err.is))

pub returns-in-Ok : goal.returns-in-Ok
returns-in-Ok c = λ w q.
    given_out c.args.r c.args.store.now c.assigned.result c.assigned.new.store _ _
    (valid-says c.args.r c.args.store.now w c.args.incarnation c.if-incarnation-expected.false
    ∙ content-taken c.args.r c.args.store.now _ _
    (q ∙ ap (λ (y : Result ℕ Refusal). content_from y c.args.b.now) c.in-Ok.is)) c.assigned.ensures
