-- `packed::records_end` meets its contract. The invariant is `Walk` of proofs/EndLaws, the measure how many bytes are left. Assumes nothing.
use Prim.Native.Nat.{◌-◌}
use Rattle.packed.proofs.EndLaws.{Walk}
use Rattle.packed.proofs.records_end.Given as goal

abbrev pub invariant-loop-at : goal.invariant-loop-at
invariant-loop-at l = Walk l.s l.at l.n l.end l.p l.stop l.id

abbrev pub decreases-loop-at : goal.decreases-loop-at
decreases-loop-at l = l.end - l.p
