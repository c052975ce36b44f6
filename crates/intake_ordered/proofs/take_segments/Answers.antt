-- `take_segments` meets its contract: segments alone, in whatever order.
-- The invariant: what is told of the segments from `at` on, written from `used` on, tells those from the first on. The measure is the bytes
-- left. Assumes nothing.
use Prim.Native.Nat.{◌+◌}
use native.Mathlib.Omega.{arith}
use mathlib.Core.Path.{refl, ◌∙◌}
use Rattle.intake_ordered.proofs.TakeLaws.{segment-long, segment-kept, segments-count, segments-end, segments-next}
use Rattle.intake_ordered.proofs.take_segments.Goals as goal

pub loop-at-init : goal.loop-at-init
loop-at-init c = (c.requires.b_len, omega arith, omega arith, λ n to after b' k. segments-count (omega arith) k)

pub loop-at-preserved : goal.loop-at-preserved
loop-at-preserved c =
    let f = c.in_ok-from.ensures in
    let q = c.in_ok-id.ensures in
    let i = c.loop-at.invariant in (
      segment-kept q ∙ i.0,
      omega (arith, q.room, i.0),
      omega (arith, i.2, segment-long q),
      λ n to after b' k. segments-count (omega arith) (i.3 (n + 1) to after b' (segments-next _ _ _ _ _ f q refl k)),
    )

pub returns : goal.returns
returns c =
    let i = c.loop-at.invariant in
    segments-count (omega arith) (i.3 0 _ _ _ (segments-end _ _ _ _ _ _ _ c.loop-at-test.false (omega (arith, i.0, i.1))))

pub slice_bounds-take_segment-count : goal.slice_bounds-take_segment-count
slice_bounds-take_segment-count c = let h = c.in_ok-from.ensures in omega arith

pub slice_bounds-take_segment-start : goal.slice_bounds-take_segment-start
slice_bounds-take_segment-start c = let h = c.in_ok-from.ensures in omega arith

pub slice_bounds-take_segment-end : goal.slice_bounds-take_segment-end
slice_bounds-take_segment-end c = let h = c.in_ok-from.ensures in omega arith

pub loop-at-smaller : goal.loop-at-smaller
loop-at-smaller c = let h = c.in_ok-from.ensures in omega arith
