-- `topics::seek` meets its contract: the topics before the place low stand before t (`Sought`). The measure is what is left.
-- Assumes nothing.
use Prim.Native.Nat.{◌-◌}
use lib.ListN.{length}
use Rattle.watch_topics.proofs.SeekLaws.{Sought}
use Rattle.watch_topics.proofs.seek.Given as goal

abbrev pub invariant-loop-low : goal.invariant-loop-low
invariant-loop-low l = Sought l.s l.t l.low

abbrev pub decreases-loop-low : goal.decreases-loop-low
decreases-loop-low l = length l.s - l.low
