-- `topic_merge::take_out` meets its contract. The invariant is `Left` of proofs/TakeLaws; the measure is what is left of the second list.
-- Assumes nothing.
use Prim.Native.Nat.{◌-◌}
use lib.ListN.{length}
use Rattle.watch_merge.proofs.TakeLaws.{Left}
use Rattle.watch_merge.proofs.take_out.Given as goal

abbrev pub invariant-loop-at : goal.invariant-loop-at
invariant-loop-at l = Left l.initial.b l.gone l.b l.to l.from l.at

abbrev pub decreases-loop-at : goal.decreases-loop-at
decreases-loop-at l = length l.gone - l.at
