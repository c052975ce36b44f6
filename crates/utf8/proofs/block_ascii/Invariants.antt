-- `block_ascii` meets its contract. The invariant: the bytes that were passed are of the first row, if it is said so. The measure is the bytes left of
-- 16.
-- Assumes nothing.
use Prim.Native.Nat.{◌+◌, ◌-◌, ◌≤◌}
use mathlib.Core.Path.{◌≡◌}
use mathlib.Core.Bool.{true}
use Rattle.utf8.specs.Passes.{Ascii}
use Rattle.utf8.proofs.block_ascii.Given as goal

abbrev pub invariant-loop-i : goal.invariant-loop-i
invariant-loop-i l = (l.i ≤ 16) × (l.ascii ≡ true → Ascii l.s l.at (l.at + l.i))

abbrev pub decreases-loop-i : goal.decreases-loop-i
decreases-loop-i l = 16 - l.i
