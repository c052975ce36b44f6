-- `segment_complete` meets its contract. The invariant: what is found, with what is left, is all (`SegmentLeft`). The measure is what is left of the segment.
-- Assumes nothing.
use Prim.Native.Nat.{◌-◌}
use lib.ListN.{length}
use Rattle.wire_required.proofs.LookLaws.{SegmentLeft}
use Rattle.wire_required.proofs.segment_complete.Given as goal

abbrev pub invariant-loop-at : goal.invariant-loop-at
invariant-loop-at l = SegmentLeft l.s l.at l.id l.start l.end l.topic

abbrev pub decreases-loop-at : goal.decreases-loop-at
decreases-loop-at l = length l.s - l.at
