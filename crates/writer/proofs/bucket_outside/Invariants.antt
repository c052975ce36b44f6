-- `bucket_outside` meets its contract. The invariant is `Within` of proofs/OutsideLaws; the measure is how many buckets are left.
-- Assumes nothing.
use Prim.Native.Nat.{◌-◌}
use Rattle.writer.proofs.OutsideLaws.{Within}
use Rattle.writer.proofs.bucket_outside.Given as goal

abbrev pub invariant-loop-index : goal.invariant-loop-index
invariant-loop-index l = Within l.s l.at l.n l.range l.index l.p

abbrev pub decreases-loop-index : goal.decreases-loop-index
decreases-loop-index l = l.n - l.index
