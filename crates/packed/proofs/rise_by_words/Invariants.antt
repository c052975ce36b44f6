-- `packed::rise_by_words` meets its contract. The invariant is `Answered`, the measure how many ranges are left. Assumes nothing.
use Rattle.packed.proofs.WordLaws.{Answered}
use Rattle.packed.proofs.rise_by_words.Given as goal

abbrev pub invariant-loop-left : goal.invariant-loop-left
invariant-loop-left l = Answered l.s l.at l.n l.x l.y l.low l.p l.left

abbrev pub decreases-loop-left : goal.decreases-loop-left
decreases-loop-left l = l.left
