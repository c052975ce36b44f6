-- `next_inner` meets its contract. The invariant: the cursor lies inside the message, not before the one that was given, and has the same
-- parts before it. The measure is what is left of the message behind this part of field n. Assumes nothing.
use Prim.Native.Nat.{◌-◌, ◌≤◌}
use mathlib.Core.Path.{◌≡◌}
use lib.ListN.{length}
use Rattle.wire_values.specs.Places.{inner_from, Inside}
use Rattle.wire_values.proofs.PlaceLaws.{place}
use Rattle.wire_values.proofs.next_inner.Given as goal

abbrev pub invariant-loop-start : goal.invariant-loop-start
invariant-loop-start l = Inside l.m (place l.outer l.at l.end) × (l.initial.at ≤ l.at) × (inner_from l.n l.k l.m (place l.initial.outer l.initial.at l.initial.end) ≡ inner_from l.n l.k l.m (place l.outer l.at l.end))

abbrev pub decreases-loop-start : goal.decreases-loop-start
decreases-loop-start l = length l.m - l.outer
