-- `stop_from` meets its contract. The invariant: the walk from the place i on decides where it stops. The measure is what is left of the text.
-- Assumes nothing.
use Prim.Native.Nat.{◌+◌, ◌-◌, ◌≤◌}
use mathlib.Core.Path.{◌≡◌}
use lib.ListN.{length, drop}
use Rattle.name_parents.specs.Parents.{passed}
use Rattle.name_parents.proofs.stop_from.Given as goal

abbrev pub invariant-loop-i : goal.invariant-loop-i
invariant-loop-i l = (l.i ≤ length l.s) × (l.i + passed l.lowest (drop l.i l.s) ≡ l.from + passed l.lowest (drop l.from l.s))

abbrev pub decreases-loop-i : goal.decreases-loop-i
decreases-loop-i l = length l.s - l.i
