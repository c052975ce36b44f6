-- `contains` meets its contract, by the answer of `KeyRange::new`.
-- Assumes nothing.
use mathlib.Core.Path.{sym, ◌∙◌}
use Rattle.std.proofs.lemmas.Result.{err_from_is_err_and}
use Rattle.ranges_calls.specs.Calls.{contains_of}
use Rattle.ranges_calls.proofs.contains.Goals as goal

pub returns-in_err-range : goal.returns-in_err-range
unfolding contains_of
returns-in_err-range c =
    let e = sym c.new.ensures ∙ c.in_err-range.was in
    let p = err_from_is_err_and c.from_residual.result c.from_residual.ensures.1 in
    rw (e, p.1, p.2)

pub returns : goal.returns
unfolding contains_of
returns c = let e = sym c.new.ensures ∙ c.in_ok-range.was in rw (e, c.holds_hash.ensures)
