-- `inner_number` meets its contract. The invariant: the last of the numbers in the parts from `at` on, or `last` where there is none, is the
-- last of all. The measure is what is left of the message. Assumes nothing.
use Prim.Native.Nat.{◌-◌}
use lib.ListN.{length}
use Rattle.wire_values.proofs.PlaceLaws.{InnerKept}
use Rattle.wire_values.proofs.inner_number.Given as goal

abbrev pub invariant-loop-start : goal.invariant-loop-start
invariant-loop-start l = InnerKept l.n l.k l.m l.at l.last

abbrev pub decreases-loop-start : goal.decreases-loop-start
decreases-loop-start l = length l.m - l.at
