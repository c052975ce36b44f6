-- `topic_merge::merge` meets its contract. The invariant is `Merged` of proofs/MergeLaws; the measure is what is left of the new topics.
-- Assumes nothing.
use Prim.Native.Nat.{◌-◌}
use lib.ListN.{length}
use Rattle.watch_merge.proofs.MergeLaws.{Merged}
use Rattle.watch_merge.proofs.merge.Given as goal

abbrev pub invariant-loop-at : goal.invariant-loop-at
invariant-loop-at l = Merged l.initial.b l.new l.b l.used l.to l.from l.at

abbrev pub decreases-loop-at : goal.decreases-loop-at
decreases-loop-at l = length l.new - l.at
