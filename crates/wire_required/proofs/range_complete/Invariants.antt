-- `range_complete` meets its contract. The invariant: what is found, with what is left, is all (`RangeLeft`). The measure is what is left of the range.
-- Assumes nothing.
use Prim.Native.Nat.{◌-◌}
use lib.ListN.{length}
use Rattle.wire_required.proofs.LookLaws.{RangeLeft}
use Rattle.wire_required.proofs.range_complete.Given as goal

abbrev pub invariant-loop-at : goal.invariant-loop-at
invariant-loop-at l = RangeLeft l.p l.at l.start l.end

abbrev pub decreases-loop-at : goal.decreases-loop-at
decreases-loop-at l = length l.p - l.at
