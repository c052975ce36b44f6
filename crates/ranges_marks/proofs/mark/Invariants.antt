-- `mark` meets its contract. The invariant is `Turn`, the measure how many values are left. Assumes nothing.
use Prim.Native.Nat.{◌-◌}
use Rattle.ranges_marks.proofs.MarkLaws.{Turn}
use Rattle.ranges_marks.proofs.mark.Given as goal

abbrev pub invariant-loop-at : goal.invariant-loop-at
invariant-loop-at l = Turn l.initial.marks l.initial.at l.stop l.marks l.at

abbrev pub decreases-loop-at : goal.decreases-loop-at
decreases-loop-at l = l.stop - l.at
