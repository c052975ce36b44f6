-- `check_fields` meets its contract. The invariant: the fields from `at` on decide. The measure is what is left of the command. Assumes nothing.
use Rattle.std.proofs.lemmas.Result.{err_from_is_err_and}
use Rattle.std.specs.Prelude.{ℕ, Result}
use native.Mathlib.Omega.{arith}
use mathlib.Core.Path.{◌≡◌, refl, sym, ◌∙◌}
use Rattle.wire_command.proofs.ShellLaws.{StepAt, step-at, shell-end}
use Rattle.wire_command.proofs.check_fields.Goals.{After-read_step}
use Rattle.wire_command.proofs.check_fields.Goals as goal
use Rattle.refusal.specs.declared.Refusal.{Refusal}

-- the place where the field is read
step : (c : After-read_step) (q : Result ℕ Refusal) → c.read_step.result ≡ q
    → StepAt c.args.s.now c.loop-at.at q
step c q e = step-at _ _ c.loop-at-test.true q (sym c.read_step.ensures ∙ e)

pub loop-at-init : goal.loop-at-init
loop-at-init c = refl

pub returns-in_err-at : goal.returns-in_err-at
returns-in_err-at c =
    let q = step (goal.at.returns-in_err-at c).After-read_step _ c.in_err-at.was in
    let p = err_from_is_err_and c.from_residual.result c.from_residual.ensures.1 in
    rw (p.1, p.2) (q ∙ sym c.loop-at.invariant)

pub overflow_add-at : goal.overflow_add-at
overflow_add-at c = let q = step (goal.at.overflow_add-at c).After-read_step _ c.in_ok-at.was in omega (arith, q.1)

pub loop-at-smaller : goal.loop-at-smaller
loop-at-smaller c = let q = step (goal.at.loop-at-smaller c).After-read_step _ c.in_ok-at.was in omega (arith, q.0, q.1)

pub loop-at-preserved : goal.loop-at-preserved
loop-at-preserved c =
    let q = step (goal.at.loop-at-preserved c).After-read_step _ c.in_ok-at.was in
    c.loop-at.invariant ∙ q.2

pub returns : goal.returns
returns c = shell-end _ _ c.loop-at-test.false ∙ sym c.loop-at.invariant
