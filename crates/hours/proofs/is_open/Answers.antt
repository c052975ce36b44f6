-- `hours::is_open` meets its contract: the counts that were answered are the contract's, and the terms are asked
-- before the windows.
-- Assumes nothing.
use native.Mathlib.Omega.{arith}
use mathlib.Core.Path.{◌≡◌, sym, ap, ◌∙◌}
use Rattle.std.specs.Prelude.{Ok}
use Rattle.std.proofs.lemmas.Result.{err_from_is_err_and}
use Rattle.refusal.specs.declared.Refusal.TheVariants.{InvalidContract}
use Rattle.hours.proofs.SpanLaws.{shaped, not-shaped}
use Rattle.hours.proofs.HoursLaws.{open-not, open-windows, open-terms}
use Rattle.hours.proofs.is_open.Goals as goal

pub returns-in_err-terms : goal.returns-in_err-terms
returns-in_err-terms c =
    let p = err_from_is_err_and c.from_residual.result c.from_residual.ensures.1 in
    rw (p.1, p.2, (let e : c.in_err-terms.field-0.0 ≡ InvalidContract = grind arith in e))
    (open-not c.args.contract.now c.args.second
    (not-shaped c.args.contract.now (sym c.in_err-terms.ensures.ok_part ∙ c.read_contract.ensures)))

pub any_holds-in_term-requires : goal.any_holds-in_term-requires
any_holds-in_term-requires c =
    omega (
      arith,
      (shaped c.args.contract.now c.in_ok-terms.terms c.in_ok-terms.windows
          (sym c.in_ok-terms.ensures.ok_part ∙ c.read_contract.ensures)).inside,
    )

pub overflow_mul-terms : goal.overflow_mul-terms
overflow_mul-terms c =
    omega (
      arith,
      (shaped c.args.contract.now c.in_ok-terms.terms c.in_ok-terms.windows
          (sym c.in_ok-terms.ensures.ok_part ∙ c.read_contract.ensures)).inside,
    )

pub overflow_add-terms : goal.overflow_add-terms
overflow_add-terms c =
    omega (
      arith,
      (shaped c.args.contract.now c.in_ok-terms.terms c.in_ok-terms.windows
          (sym c.in_ok-terms.ensures.ok_part ∙ c.read_contract.ensures)).inside,
    )

pub any_holds-requires : goal.any_holds-requires
any_holds-requires c =
    omega (
      arith,
      (shaped c.args.contract.now c.in_ok-terms.terms c.in_ok-terms.windows
          (sym c.in_ok-terms.ensures.ok_part ∙ c.read_contract.ensures)).inside,
    )

pub returns-then-in_term : goal.returns-then-in_term
returns-then-in_term c =
    open-windows c.args.contract.now c.args.second c.in_ok-terms.terms c.in_ok-terms.windows
    (shaped c.args.contract.now c.in_ok-terms.terms c.in_ok-terms.windows (sym c.in_ok-terms.ensures.ok_part ∙ c.read_contract.ensures))
    (sym c.any_holds-in_term.ensures ∙ c.if-in_term.true) c.any_holds.result c.any_holds.ensures

pub returns-else-in_term : goal.returns-else-in_term
returns-else-in_term c =
    ap Ok c.if-in_term.false
    ∙ open-terms c.args.contract.now c.args.second c.in_ok-terms.terms c.in_ok-terms.windows
    (shaped c.args.contract.now c.in_ok-terms.terms c.in_ok-terms.windows (sym c.in_ok-terms.ensures.ok_part ∙ c.read_contract.ensures))
    (sym c.any_holds-in_term.ensures ∙ c.if-in_term.false)
