-- `delta::records_to` meets its contract.
-- The invariant is `Records` of proofs/ReadLaws: the records that are left, from the place p on, decide the whole, and end where all end.
-- The measure is how many are left. Assumes nothing.
use Rattle.packed_delta.proofs.ReadLaws.{Records}
use Rattle.packed_delta.proofs.records_to.Given as goal

abbrev pub invariant-loop-left : goal.invariant-loop-left
invariant-loop-left l = Records l.s l.at l.n l.p l.left l.first l.prev

abbrev pub decreases-loop-left : goal.decreases-loop-left
decreases-loop-left l = l.left
