-- `load_row` meets its contract. The invariant is `Loading`, the measure what the row can still take. Assumes nothing.
use Prim.Native.Nat.{◌-◌}
use Rattle.intake_buckets.proofs.RowLaws.{Loading}
use Rattle.intake_buckets.proofs.load_row.Given as goal

abbrev pub invariant-loop-count : goal.invariant-loop-count
invariant-loop-count l = Loading l.p l.at l.row l.count l.next

abbrev pub decreases-loop-count : goal.decreases-loop-count
decreases-loop-count l = 506 - l.count
