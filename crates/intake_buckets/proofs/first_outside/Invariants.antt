-- `first_outside` meets its contract. The invariant is `Within`, the measure the bytes left. Assumes nothing.
use Prim.Native.Nat.{◌-◌}
use lib.ListN.{length}
use Rattle.intake_buckets.proofs.RowLaws.{Within}
use Rattle.intake_buckets.proofs.first_outside.Given as goal

abbrev pub invariant-loop-start : goal.invariant-loop-start
invariant-loop-start l = Within l.p l.range l.index l.at

abbrev pub decreases-loop-start : goal.decreases-loop-start
decreases-loop-start l = length l.p - l.at
