-- `look` meets its contract. The invariant: what is found, with what is left, is all (`PartLeft`). The measure is what is left of the part.
-- Assumes nothing.
use Prim.Native.Nat.{◌-◌}
use lib.ListN.{length}
use Rattle.wire_required.proofs.LookLaws.{PartLeft}
use Rattle.wire_required.proofs.look.Given as goal

abbrev pub invariant-loop-at : goal.invariant-loop-at
invariant-loop-at l = PartLeft l.s l.at l.initial.epoch l.initial.segments l.epoch l.segments

abbrev pub decreases-loop-at : goal.decreases-loop-at
decreases-loop-at l = length l.s - l.at
