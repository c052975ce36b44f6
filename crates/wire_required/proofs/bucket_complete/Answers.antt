-- `bucket_complete` meets its contract: field 5 is looked at. Assumes nothing.
use borrow.Author.Tests.{eq-eqb, ne_eqb}
use Rattle.wire_required.proofs.bucket_complete.Goals as goal

pub returns-then-f-eq5 : goal.returns-then-f-eq5
returns-then-f-eq5 c = rw (eq-eqb _ 5 c.if-f-eq5.true) c.range_complete.ensures

pub returns-else-f-eq5 : goal.returns-else-f-eq5
returns-else-f-eq5 c = rw (ne_eqb _ 5 c.if-f-eq5.false)
