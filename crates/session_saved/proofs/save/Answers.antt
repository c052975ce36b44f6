-- `saved::save` meets its contract: a test after the other, then the session is written.
-- Assumes nothing.
use Rattle.std.specs.Prelude.{ℕ, Option, Some, None, Err}
use Rattle.std.proofs.lemmas.Result.{err_from_is_err_and}
use native.Mathlib.Omega.{arith}
use mathlib.Core.Path.{◌≡◌, subst, ap, ◌∙◌}
use Rattle.refusal.specs.declared.Refusal.{Refusal}
use Rattle.refusal.specs.declared.Refusal.TheVariants.{MalformedStore}
use Rattle.output.specs.Output.{outcome}
use Rattle.session_store.specs.Tests.{StoreTested}
use Rattle.session_saved.proofs.FrontLaws.{end-most}
use Rattle.session_saved.proofs.CallLaws.{save-short, save-damaged, save-sound}
use Rattle.session_saved.proofs.save.Goals.{In_ok-end}
use Rattle.session_saved.proofs.save.Goals as goal

sound : (c : In_ok-end) → StoreTested c.args.r c.args.store.now (Some c.in_ok-end.end)
sound c =
    subst (λ (x : Option ℕ). StoreTested c.args.r c.args.store.now x)
    (let it : (c.test_store.result ≡ Some c.in_ok-end.end) = grind arith in it) c.test_store.ensures

pub returns-then-store-lt-MIN_STORE : goal.returns-then-store-lt-MIN_STORE
returns-then-store-lt-MIN_STORE c = save-short _ _ _ c.if-store-lt-MIN_STORE.true

pub write_saved-requires-clause-queue_ends : goal.write_saved-requires-clause-queue_ends
write_saved-requires-clause-queue_ends c = (sound (goal.at.write_saved-requires-clause-queue_ends c).In_ok-end).1

pub write_saved-requires-clause-end_bound : goal.write_saved-requires-clause-end_bound
write_saved-requires-clause-end_bound c =
    let h = sound (goal.at.write_saved-requires-clause-end_bound c).In_ok-end in
    end-most c.args.r c.args.store.now h.0 _ h.1

pub returns-in_err-end : goal.returns-in_err-end
returns-in_err-end c =
    let p = err_from_is_err_and c.from_residual.result c.from_residual.ensures.1 in
    let n : c.test_store.result ≡ None = grind arith in
    let e : c.in_err-end.field-0.0 ≡ MalformedStore = grind arith in
    rw (p.1, p.2)
    (ap (λ (x : Refusal). outcome (Err x) c.args.out.now) e
    ∙ save-damaged _ _ _ c.if-store-lt-MIN_STORE.false (subst (λ (x : Option ℕ). StoreTested c.args.r c.args.store.now x) n c.test_store.ensures))

pub returns : goal.returns
returns c = c.write_saved.ensures ∙ save-sound _ _ _ c.if-store-lt-MIN_STORE.false (sound (goal.at.returns c).In_ok-end).0
