-- `moves::raise_blocks` meets its contract. The invariant is what it ensures; the measure is the place that is reached.
-- Assumes nothing.
use Rattle.slice_moves.specs.Moved.{Raised}
use Rattle.slice_moves.proofs.raise_blocks.Given as goal

abbrev pub invariant-loop-i : goal.invariant-loop-i
invariant-loop-i l = Raised l.initial.b l.from l.to l.z l.b l.i

abbrev pub decreases-loop-i : goal.decreases-loop-i
decreases-loop-i l = l.i
