-- `len` meets its contract: a range that `KeyRange::new` makes is not reversed and ends in the key space, so the sum fits.
-- Assumes nothing.
use native.Mathlib.Omega.{arith}
use mathlib.Core.Path.{sym, ◌∙◌}
use Rattle.std.proofs.lemmas.Result.{err_from_is_err_and}
use Rattle.topic_types.proofs.KeyRangeLaws.{new-valid}
use Rattle.ranges_calls.specs.Calls.{length_of}
use Rattle.ranges_calls.proofs.len.Goals as goal

pub returns-in_err-r : goal.returns-in_err-r
unfolding length_of
returns-in_err-r c =
    let e = sym c.new.ensures ∙ c.in_err-r.was in
    let p = err_from_is_err_and c.from_residual.result c.from_residual.ensures.1 in
    rw (e, p.1, p.2)

pub overflow_sub-result : goal.overflow_sub-result
overflow_sub-result c = omega (arith, new-valid _ _ _ (sym c.new.ensures ∙ c.in_ok-r.was))

pub overflow_add-result : goal.overflow_add-result
overflow_add-result c = omega (arith, new-valid _ _ _ (sym c.new.ensures ∙ c.in_ok-r.was))

pub returns : goal.returns
unfolding length_of
returns c = let e = sym c.new.ensures ∙ c.in_ok-r.was in rw e
