-- `seek_inner` meets its contract. The invariant: the cursor lies inside the message, and has the same parts before it as the one that was given. The
-- measure is what is left of the message behind this part of field n. Assumes nothing.
use Prim.Native.Nat.{◌-◌}
use mathlib.Core.Path.{◌≡◌}
use lib.ListN.{length}
use Rattle.wire_values.specs.Places.{inner_from, Inside}
use Rattle.wire_values.proofs.PlaceLaws.{place}
use Rattle.wire_values.proofs.seek_inner.Given as goal

abbrev pub invariant-loop-end : goal.invariant-loop-end
invariant-loop-end l = Inside l.m (place l.outer l.at l.end) × (inner_from l.n l.k l.m (place l.outer l.at l.end) ≡ inner_from l.n l.k l.m (place l.initial.outer l.initial.at l.initial.end))

abbrev pub decreases-loop-end : goal.decreases-loop-end
decreases-loop-end l = length l.m - l.outer
