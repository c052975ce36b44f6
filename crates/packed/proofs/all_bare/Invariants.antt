-- `packed::all_bare` meets its contract. The invariant is `Walk` of proofs/EndLaws, with the end of the bytes for the end of the records; the measure is what is
-- left. Assumes nothing.
use Prim.Native.Nat.{◌-◌}
use Rattle.packed.proofs.EndLaws.{Walk}
use Rattle.packed.proofs.all_bare.Given as goal

abbrev pub invariant-loop-end : goal.invariant-loop-end
invariant-loop-end l = Walk l.s 10 l.count l.end l.p l.end l.prev

abbrev pub decreases-loop-end : goal.decreases-loop-end
decreases-loop-end l = l.end - l.p
