-- `mark_row` meets its contract. The invariant is `RowTurn`, the measure what is left of the row. Assumes nothing.
use Rattle.std.proofs.Common.{◌-◌, length}
use Rattle.ranges_marks.proofs.RowLaws.{RowTurn}
use Rattle.ranges_marks.proofs.mark_row.Given as goal

abbrev pub invariant-loop-i : goal.invariant-loop-i
invariant-loop-i l = RowTurn l.initial.marks l.row l.marks l.i

abbrev pub decreases-loop-i : goal.decreases-loop-i
decreases-loop-i l = length l.row - l.i
