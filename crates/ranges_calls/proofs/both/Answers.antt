-- `both` meets its contract: each return is the case of `pair_by` that the two answers of `KeyRange::new` pick.
-- Assumes nothing.
use mathlib.Core.Path.{sym, ◌∙◌}
use Rattle.std.proofs.lemmas.Result.{err_from_is_err_and}
use Rattle.ranges_calls.specs.Calls.{pair_by}
use Rattle.ranges_calls.proofs.both.Goals as goal

pub returns-in_err-a : goal.returns-in_err-a
unfolding pair_by
returns-in_err-a c =
    let e = sym c.new.ensures ∙ c.in_err-a.was in
    let p = err_from_is_err_and c.from_residual.result c.from_residual.ensures.1 in
    rw (e, p.1, p.2)

pub returns-in_err-b : goal.returns-in_err-b
unfolding pair_by
returns-in_err-b c =
    let e = sym c.new.ensures ∙ c.in_ok-a.was in
    let f = sym c.new-2.ensures ∙ c.in_err-b.was in
    let p = err_from_is_err_and c.from_residual-in_err-b.result c.from_residual-in_err-b.ensures.1 in
    rw (e, f, p.1, p.2)

pub returns : goal.returns
unfolding pair_by
returns c =
    let e = sym c.new.ensures ∙ c.in_ok-a.was in
    let f = sym c.new-2.ensures ∙ c.in_ok-b.was in
    rw (e, f)
