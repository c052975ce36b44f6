-- `updates` meets its contract. The invariant: the bytes from the place i on, taken into the state, decide. The measure is what is left of them.
-- Assumes nothing.
use Prim.Native.Nat.{◌-◌}
use mathlib.Core.Path.{◌≡◌}
use lib.ListN.{length, drop}
use Rattle.crc32.specs.Crc.{updates}
use Rattle.crc32.proofs.updates.Given as goal

abbrev pub invariant-loop-i : goal.invariant-loop-i
invariant-loop-i l = updates l.c l.s ≡ updates l.state (drop l.i l.s)

abbrev pub decreases-loop-i : goal.decreases-loop-i
decreases-loop-i l = length l.s - l.i
