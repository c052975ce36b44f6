-- `load_row` meets its contract. The invariant is `Loading`, the measure what the row can still take. Assumes nothing.
use native.Mathlib.Omega.{arith}
use mathlib.Core.Path.{refl}
use Rattle.intake_buckets.proofs.RowLaws.{loading-start, loading-next, loaded-none, loaded-full}
use Rattle.intake_buckets.proofs.load_row.Goals as goal

pub loop-count-init : goal.loop-count-init
loop-count-init c = loading-start _ _ _ refl

pub returns-in_default : goal.returns-in_default
returns-in_default c =
    loaded-none c.loop-count.invariant (c.in_default.ensures)

pub overflow_add-start : goal.overflow_add-start
overflow_add-start c = let q = c.in-Some.ensures in omega (arith, q.0, q.1, q.2)

pub slice_bounds-read_bucket-end : goal.slice_bounds-read_bucket-end
slice_bounds-read_bucket-end c = let q = c.in-Some.ensures in omega (arith, q.0, q.1, q.2)

pub loop-count-preserved : goal.loop-count-preserved
loop-count-preserved c =
    loading-next c.loop-count.invariant c.in-Some.start c.in-Some.len c.in-Some.after (c.in-Some.ensures)
    c.read_bucket-r.ensures c.key_range_of.ensures (omega arith)

pub returns : goal.returns
returns c = loaded-full c.loop-count.invariant (omega arith)
