-- `take_buckets` meets its contract: ranges alone, each inside the segment's range.
-- The invariant: what is told of the buckets from `at` on, written from `to` on, tells those from the first on. The measure is the bytes
-- left. Assumes nothing.
use Prim.Native.Nat.{◌+◌, ◌*◌, ◌≤◌}
use native.Mathlib.Omega.{arith}
use mathlib.Core.Path.{◌≡◌, refl, ap, ◌∙◌}
use lib.ListN.{length}
use borrow.Author.Rules.{rules}
use Rattle.slice_int.proofs.BeLaws.{length-bytes_of}
use Rattle.slice_int.proofs.PutLaws.{length-put}
use Rattle.intake_ordered.proofs.TakeLaws.{buckets-end, buckets-next}
use Rattle.intake_ordered.proofs.take_buckets.Goals as goal

pub loop-at-preserved : goal.loop-at-preserved
loop-at-preserved c =
    let f = c.in_ok-start.ensures in
    let loop = c.loop-at in
    let w = c.write_u32.ensures in
    let r : loop.to + 4 ≤ length loop.b = omega arith in
    let n = length-bytes_of 4 (c.in_ok-start.start * 65536 + c.in_ok-start.end) in
    let l : length c.write_u32.new.out ≡ length loop.b = ap length w ∙ length-put _ _ _ (omega arith) in (
      l ∙ loop.invariant.0,
      omega arith,
      omega (arith, f.range.high),
      λ end after b' k. loop.invariant.3 end after b' (buckets-next _ _ _ _ _ _ _ f (omega arith) (omega arith) r w refl k),
    )

pub returns : goal.returns
returns c = c.loop-at.invariant.3 _ _ _ (buckets-end _ _ _ _ _ _ _ _ c.loop-at-test.false c.loop-at.invariant.1)

pub loop-at-init : goal.loop-at-init
loop-at-init c = (refl, search rules, omega arith, λ end after b' k. k)

pub overflow_mul-start : goal.overflow_mul-start
overflow_mul-start c = let h = c.in_ok-start.ensures in omega (arith, h.range.order, h.range.high)

pub overflow_add-start : goal.overflow_add-start
overflow_add-start c = let h = c.in_ok-start.ensures in omega (arith, h.range.order, h.range.high)

pub overflow_cast-start : goal.overflow_cast-start
overflow_cast-start c = let h = c.in_ok-start.ensures in omega (arith, h.range.order, h.range.high)

pub overflow_add-low : goal.overflow_add-low
overflow_add-low c = let h = c.in_ok-start.ensures in omega (arith, h.range.high)

pub loop-at-smaller : goal.loop-at-smaller
loop-at-smaller c = let h = c.in_ok-start.ensures in omega (arith, h.part.moved, h.part.within)
