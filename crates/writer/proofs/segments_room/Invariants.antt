-- `segments_room` meets its contract. The invariant is `Counted` of proofs/FieldLaws; the measure is how many records are left.
-- Assumes nothing.
use Rattle.writer.proofs.FieldLaws.{Counted}
use Rattle.writer.proofs.segments_room.Given as goal

abbrev pub invariant-loop-left : goal.invariant-loop-left
invariant-loop-left l = Counted l.path l.s l.at l.m l.limit l.size l.p l.left

abbrev pub decreases-loop-left : goal.decreases-loop-left
decreases-loop-left l = l.left
