-- `buckets_size` meets its contract. The invariant is `Sized` of proofs/FieldLaws; the measure is how many buckets are left.
-- Assumes nothing.
use Rattle.writer.proofs.FieldLaws.{Sized}
use Rattle.writer.proofs.buckets_size.Given as goal

abbrev pub invariant-loop-left : goal.invariant-loop-left
invariant-loop-left l = Sized l.s l.at l.n l.size l.p l.left

abbrev pub decreases-loop-left : goal.decreases-loop-left
decreases-loop-left l = l.left
