-- `assignment_complete` meets its contract. The invariant: what is found, with what is left, is all (`PartsLeft`). The measure is what is left of the message.
-- Assumes nothing.
use Prim.Native.Nat.{◌-◌}
use lib.ListN.{length}
use Rattle.wire_required.proofs.LookLaws.{PartsLeft}
use Rattle.wire_required.proofs.assignment_complete.Given as goal

abbrev pub invariant-loop-start : goal.invariant-loop-start
invariant-loop-start l = PartsLeft l.n l.m l.at l.found.epoch l.found.segments

abbrev pub decreases-loop-start : goal.decreases-loop-start
decreases-loop-start l = length l.m - l.at
