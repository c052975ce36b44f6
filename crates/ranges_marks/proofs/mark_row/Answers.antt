-- `mark_row` meets its contract: a turn is a case of `RowTurn`'s laws. Assumes nothing.
use Rattle.std.proofs.Common.{subst, Bool}
use Rattle.ranges_marks.specs.Marks.{RowMarking}
use Rattle.ranges_marks.proofs.RowLaws.{row-found, row_next}
use Rattle.ranges_marks.proofs.mark_row.Goals as goal

pub returns-then-mark : goal.returns-then-mark
returns-then-mark c =
    subst (λ (t : Bool). RowMarking c.args.marks.now c.args.row.now t c.mark.new.marks) c.if-mark.true
    (row-found c.loop-i.invariant c.loop-i-test.true c.mark.ensures c.if-mark.true)

pub loop-i-preserved : goal.loop-i-preserved
loop-i-preserved c = row_next c.loop-i.invariant c.loop-i-test.true c.mark.ensures c.if-mark.false
