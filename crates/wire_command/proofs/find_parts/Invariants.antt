-- `find_parts` meets its contract. The invariant: the parts before `at` are counted, and the last of them is the `length` bytes from `start` on
-- (`Held`). The measure is what is left of the message; each front stands inside it. Assumes nothing.
use Prim.Native.Nat.{◌-◌}
use lib.ListN as list
use Rattle.wire_command.proofs.PlaceLaws.{Held}
use Rattle.wire_command.proofs.find_parts.Given as goal

abbrev pub invariant-loop-at : goal.invariant-loop-at
invariant-loop-at l = Held l.n l.s l.at l.count l.start l.length

abbrev pub decreases-loop-at : goal.decreases-loop-at
decreases-loop-at l = list.length l.s - l.at
