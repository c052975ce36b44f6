-- `bucket_outside` meets its contract. The invariant is `Within` of proofs/OutsideLaws; the measure is how many buckets are left.
-- Assumes nothing.
use native.Mathlib.Omega.{arith}
use Rattle.writer.proofs.OutsideLaws.{within-start, within_low, within-high, within-next, within_end}
use Rattle.writer.proofs.bucket_outside.Goals.{then-bucket-range-via-then-bucket-range, then-bucket-range-via-else-bucket-range+then-range-bucket}
use Rattle.writer.proofs.bucket_outside.Goals as goal

pub loop-index-init : goal.loop-index-init
loop-index-init c = within-start _ _ _ _

pub range_at-bucket-requires : goal.range_at-bucket-requires
range_at-bucket-requires c = omega (arith, c.loop-index.invariant.place, c.loop-index.invariant.few, c.loop-index-test.true)

pub returns-then-bucket-range : goal.returns-then-bucket-range
returns-then-bucket-range c =
    elim c.then-bucket-range.branch [
      | then-bucket-range-via-then-bucket-range w ↦
          within_low c.loop-index.invariant c.loop-index-test.true c.range_at-bucket.ensures w.if-bucket-range.true
      | then-bucket-range-via-else-bucket-range+then-range-bucket w ↦
          within-high c.loop-index.invariant c.loop-index-test.true c.range_at-bucket.ensures w.if-bucket-range.false w.if-range-bucket.true
    ]

pub overflow_add-p : goal.overflow_add-p
overflow_add-p c =
    omega (arith, c.loop-index.invariant.place, c.loop-index.invariant.few, c.loop-index-test.true)

pub overflow_add-index : goal.overflow_add-index
overflow_add-index c = omega (arith, c.loop-index-test.true)

pub loop-index-smaller : goal.loop-index-smaller
loop-index-smaller c = omega (arith, c.loop-index-test.true)

pub loop-index-preserved : goal.loop-index-preserved
loop-index-preserved c =
    within-next c.loop-index.invariant c.loop-index-test.true c.range_at-bucket.ensures c.if-bucket-range.false c.if-range-bucket.false

pub returns : goal.returns
returns c = within_end c.loop-index.invariant (omega (arith, c.loop-index-test.false))
