-- `packed::buckets_marked` meets its contract. The invariant is `Laid`, the measure how many ranges are left. Assumes nothing.
use Rattle.packed.proofs.MarkedLaws.{Laid}
use Rattle.packed.proofs.buckets_marked.Given as goal

abbrev pub invariant-loop-left : goal.invariant-loop-left
invariant-loop-left l = Laid l.s l.at l.n l.words l.p l.left

abbrev pub decreases-loop-left : goal.decreases-loop-left
decreases-loop-left l = l.left
