-- `segments_outside` meets its contract. The invariant is `Held` of proofs/OutsideLaws; the measure is how many records are left.
-- Assumes nothing.
use Rattle.writer.proofs.OutsideLaws.{Held}
use Rattle.writer.proofs.segments_outside.Given as goal

abbrev pub invariant-loop-left : goal.invariant-loop-left
invariant-loop-left l = Held l.s l.at l.m l.p l.left

abbrev pub decreases-loop-left : goal.decreases-loop-left
decreases-loop-left l = l.left
