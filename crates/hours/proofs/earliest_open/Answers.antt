-- `hours::earliest_open` meets its contract: the first of all terms is the least open second, and the largest number
-- stands for none.
-- Assumes nothing.
use native.Mathlib.Omega.{arith}
use mathlib.Core.Path.{◌≡◌, sym, ◌∙◌}
use Rattle.std.proofs.lemmas.Result.{err_from_is_err_and}
use Rattle.refusal.specs.declared.Refusal.TheVariants.{InvalidContract}
use Rattle.hours.proofs.SpanLaws.{shaped, not-shaped}
use Rattle.hours.proofs.HoursLaws.{earliest-at, earliest-none, earliest-not}
use Rattle.hours.proofs.earliest_open.Goals as goal

pub returns-in_err-terms : goal.returns-in_err-terms
returns-in_err-terms c =
    let p = err_from_is_err_and c.from_residual.result c.from_residual.ensures.1 in
    rw (p.1, p.2, (let e : c.in_err-terms.field-0.0 ≡ InvalidContract = grind arith in e))
    (earliest-not c.args.contract.now c.args.second
    (not-shaped c.args.contract.now (sym c.in_err-terms.ensures.ok_part ∙ c.read_contract.ensures)))

pub first_of-first-requires : goal.first_of-first-requires
first_of-first-requires c =
    let h = shaped c.args.contract.now c.in_ok-terms.terms c.in_ok-terms.windows (sym c.in_ok-terms.ensures.ok_part ∙ c.read_contract.ensures) in (h.inside, h.windows-ok)

pub returns-then-first : goal.returns-then-first
returns-then-first c =
    let h = shaped c.args.contract.now c.in_ok-terms.terms c.in_ok-terms.windows (sym c.in_ok-terms.ensures.ok_part ∙ c.read_contract.ensures) in
    earliest-none c.args.contract.now c.args.second c.in_ok-terms.terms c.in_ok-terms.windows h
    c.first_of-first.result c.first_of-first.ensures c.if-first.true

pub returns-else-first : goal.returns-else-first
returns-else-first c =
    let h = shaped c.args.contract.now c.in_ok-terms.terms c.in_ok-terms.windows (sym c.in_ok-terms.ensures.ok_part ∙ c.read_contract.ensures) in
    earliest-at c.args.contract.now c.args.second c.in_ok-terms.terms c.in_ok-terms.windows h
    c.first_of-first.result c.first_of-first.ensures (omega (arith, c.if-first.false))
