-- `first_outside` meets its contract. The invariant is `Within`, the measure the bytes left. Assumes nothing.
use native.Mathlib.Omega.{arith}
use Rattle.intake_buckets.proofs.RowLaws.{within-start, within_end, within_low, within-high, within-next}
use Rattle.intake_buckets.proofs.first_outside.Goals.{then-bucket-range-via-then-bucket-range, then-bucket-range-via-else-bucket-range+then-range-bucket}
use Rattle.intake_buckets.proofs.first_outside.Goals as goal

pub loop-start-init : goal.loop-start-init
loop-start-init c = within-start _ _

pub returns-in_err-start : goal.returns-in_err-start
returns-in_err-start c = rw c.from_residual.ensures (within_end c.loop-start.invariant c.in_err-start.ensures)

pub overflow_add-start : goal.overflow_add-start
overflow_add-start c = let q = c.in_ok-start.ensures in omega (arith, q.0, q.1, q.2)

pub slice_bounds-read_bucket-end : goal.slice_bounds-read_bucket-end
slice_bounds-read_bucket-end c = let q = c.in_ok-start.ensures in omega (arith, q.0, q.1, q.2)

pub returns-then-bucket-range : goal.returns-then-bucket-range
returns-then-bucket-range c =
    elim c.then-bucket-range.branch [
      | then-bucket-range-via-then-bucket-range w ↦
          within_low c.loop-start.invariant c.in_ok-start.start c.in_ok-start.len c.in_ok-start.after (c.in_ok-start.ensures) c.read_bucket-r.ensures
          c.key_range_of-bucket.ensures (omega (arith, w.if-bucket-range.true))
      | then-bucket-range-via-else-bucket-range+then-range-bucket w ↦
          within-high c.loop-start.invariant c.in_ok-start.start c.in_ok-start.len c.in_ok-start.after (c.in_ok-start.ensures) c.read_bucket-r.ensures
          c.key_range_of-bucket.ensures (omega (arith, w.if-bucket-range.false)) (omega (arith, w.if-range-bucket.true))
    ]

pub overflow_add-index : goal.overflow_add-index
overflow_add-index c =
    let n = c.in_ok-start.ensures in
    omega (arith, c.loop-start.invariant.few, n.0, n.1, n.2)

pub loop-start-smaller : goal.loop-start-smaller
loop-start-smaller c =
    let n = c.in_ok-start.ensures in
    omega (arith, n.0, n.1, n.2)

pub loop-start-preserved : goal.loop-start-preserved
loop-start-preserved c =
    within-next c.loop-start.invariant c.in_ok-start.start c.in_ok-start.len c.in_ok-start.after (c.in_ok-start.ensures) c.read_bucket-r.ensures
    c.key_range_of-bucket.ensures (omega (arith, c.if-bucket-range.false)) (omega (arith, c.if-range-bucket.false))
