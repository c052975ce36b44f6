-- `delta::ids_rise` meets its contract.
-- The invariant is `Ids` of proofs/ReadLaws: the ids that are left, from the place p on, decide the whole.
-- The measure is how many are left. Assumes nothing.
use Rattle.packed_delta.proofs.ReadLaws.{Ids}
use Rattle.packed_delta.proofs.ids_rise.Given as goal

abbrev pub invariant-loop-left : goal.invariant-loop-left
invariant-loop-left l = Ids l.s l.at l.n l.p l.left l.first l.prev

abbrev pub decreases-loop-left : goal.decreases-loop-left
decreases-loop-left l = l.left
