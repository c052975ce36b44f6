-- `part_complete` meets its contract: field 2 is looked at. Assumes nothing.
use borrow.Author.Tests.{eq-eqb, ne_eqb}
use Rattle.wire_required.proofs.part_complete.Goals as goal

pub returns-then-f-eq2 : goal.returns-then-f-eq2
returns-then-f-eq2 c = rw (eq-eqb _ 2 c.if-f-eq2.true) c.segment_complete.ensures

pub returns-else-f-eq2 : goal.returns-else-f-eq2
returns-else-f-eq2 c = rw (ne_eqb _ 2 c.if-f-eq2.false)
