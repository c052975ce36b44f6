-- `segment_head` meets its contract, with what `uint32` gives. Assumes nothing.
use Rattle.wire_readers.proofs.segment_head.Goals as goal

pub returns : goal.returns
returns c = rw (c.uint32-hash_start.ensures, c.uint32-hash_end.ensures)
