-- `last_part` meets its contract. The invariant: `start` and `length` are the place of the last part before `at`. The measure is what is left of the
-- message. Assumes nothing.
use Prim.Native.Nat.{◌-◌}
use lib.ListN as list
use Rattle.wire_values.proofs.TextLaws.{Sought}
use Rattle.wire_values.proofs.last_part.Given as goal

abbrev pub invariant-loop-from : goal.invariant-loop-from
invariant-loop-from l = Sought l.n l.s l.at l.start l.length

abbrev pub decreases-loop-from : goal.decreases-loop-from
decreases-loop-from l = list.length l.s - l.at
