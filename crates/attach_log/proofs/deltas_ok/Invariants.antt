-- `attach_log::deltas_ok` meets its contract. The invariant is `Walk` of proofs/WalkLaws: the bytes that are left
-- decide the whole. The measure is how many they are.
-- Assumes nothing.
use Prim.Native.Nat.{◌-◌}
use lib.ListN.{length}
use Rattle.attach_log.proofs.WalkLaws.{Walk}
use Rattle.attach_log.proofs.deltas_ok.Given as goal

abbrev pub invariant-loop-p : goal.invariant-loop-p
invariant-loop-p l = Walk l.s l.p

abbrev pub decreases-loop-p : goal.decreases-loop-p
decreases-loop-p l = length l.s - l.p
