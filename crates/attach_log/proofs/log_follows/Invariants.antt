-- `attach_log::log_follows` meets its contract. The invariant is `Follow` of proofs/FollowLaws: what is left of
-- deltas and log decides the whole. The measure is what is left of the deltas' bytes.
-- Assumes nothing.
use Prim.Native.Nat.{◌-◌}
use lib.ListN.{length}
use Rattle.attach_log.proofs.FollowLaws.{Follow}
use Rattle.attach_log.proofs.log_follows.Given as goal

abbrev pub invariant-loop-p : goal.invariant-loop-p
invariant-loop-p l = Follow l.deltas l.log l.p l.q l.left

abbrev pub decreases-loop-p : goal.decreases-loop-p
decreases-loop-p l = length l.deltas - l.p
