-- `moves::lower_words` meets its contract. The invariant is what it ensures, and that the elements are bytes; the measure is what is left to move.
-- Assumes nothing.
use Prim.Native.Nat.{◌-◌}
use Rattle.slice.proofs.PartLaws.{Bytes}
use Rattle.slice_moves.specs.Moved.{Lowered}
use Rattle.slice_moves.proofs.lower_words.Given as goal

abbrev pub invariant-loop-i : goal.invariant-loop-i
invariant-loop-i l = Lowered l.initial.b l.from l.to l.z l.b l.i × Bytes l.b

abbrev pub decreases-loop-i : goal.decreases-loop-i
decreases-loop-i l = l.z - l.i
