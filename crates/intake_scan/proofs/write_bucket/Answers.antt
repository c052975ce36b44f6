-- `write_bucket` meets its contract: with no room, nothing is written. Assumes nothing.
use borrow.Author.Tests.{lt-ltb, le-ltb}
use Rattle.intake_scan.proofs.write_bucket.Goals as goal

pub returns-then-count-room : goal.returns-then-count-room
returns-then-count-room c = rw (lt-ltb _ _ c.if-count-room.true) c.write_range.ensures

pub returns-else-count-room : goal.returns-else-count-room
returns-else-count-room c = rw (le-ltb _ _ c.if-count-room.false)
