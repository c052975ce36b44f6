-- `bucket_at` meets its contract: one word tells it, or a part and the range in it. Assumes nothing.
use native.Mathlib.Omega.{arith}
use Rattle.intake_ordered_bucket.proofs.bucket_at.Goals as goal

pub returns-in-Some : goal.returns-in-Some
returns-in-Some c = c.in-Some.ensures

pub returns : goal.returns
returns c =
    record {
      from = c.in_ok-from.from;
      part = c.in_ok-from.ensures;
      range = c.in_ok-start.ensures;
    }

pub overflow_add-result : goal.overflow_add-result
overflow_add-result c = let h = c.in-Some.ensures in omega (arith, h.part.within)

pub slice_bounds-range_in-count : goal.slice_bounds-range_in-count
slice_bounds-range_in-count c = let h = c.in_ok-from.ensures in omega arith

pub slice_bounds-range_in-start : goal.slice_bounds-range_in-start
slice_bounds-range_in-start c = let h = c.in_ok-from.ensures in omega arith

pub slice_bounds-range_in-end : goal.slice_bounds-range_in-end
slice_bounds-range_in-end c = let h = c.in_ok-from.ensures in omega arith
