-- `segment_scan` meets its contract, with what `segment_head` gives. Assumes nothing.
use Rattle.intake_scan.proofs.segment_scan.Goals as goal

pub returns : goal.returns
returns c = rw c.segment_head-head.ensures
