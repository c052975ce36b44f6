-- `contains_range` meets its contract, by the answer of `both`.
-- Assumes nothing.
use Rattle.std.specs.Prelude.{Ok}
use mathlib.Core.Path.{sym, ap, ◌∙◌}
use Rattle.std.proofs.lemmas.Result.{err_from_is_err_and}
use Rattle.ranges_calls.specs.Calls.{holds_range, contains_range_of}
use Rattle.ranges_calls.proofs.PairLaws.{test_both, by-pair}
use Rattle.ranges_calls.proofs.contains_range.Goals as goal

pub returns-in_err-a : goal.returns-in_err-a
unfolding contains_range_of
returns-in_err-a c =
    let e = sym c.both.ensures ∙ c.in_err-a.was in
    let p = err_from_is_err_and c.from_residual.result c.from_residual.ensures.1 in
    rw (p.1, p.2) (sym (by-pair holds_range _ _ ∙ ap (test_both holds_range) e))

pub returns : goal.returns
unfolding contains_range_of
returns c =
    let e = sym c.both.ensures ∙ c.in_ok-a.was in
    ap Ok c.holds_range.ensures ∙ sym (by-pair holds_range _ _ ∙ ap (test_both holds_range) e)
