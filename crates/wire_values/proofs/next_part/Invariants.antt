-- `next_part` meets its contract. The invariant: the parts of the field from `at` on, and their places, are those from `from` on.
-- The measure is what is left of the message; each front stands inside it. Assumes nothing.
use Prim.Native.Nat.{◌-◌, ◌≤◌}
use mathlib.Core.Path.{◌≡◌}
use lib.ListN.{length}
use Rattle.wire_values.specs.Places.{places_from}
use Rattle.wire_values.proofs.FrontLaws.{parts_from}
use Rattle.wire_values.proofs.next_part.Given as goal

abbrev pub invariant-loop-at : goal.invariant-loop-at
invariant-loop-at l = (l.from ≤ l.at) × (parts_from l.n l.s l.from ≡ parts_from l.n l.s l.at) × (places_from l.n l.s l.from ≡ places_from l.n l.s l.at)

abbrev pub decreases-loop-at : goal.decreases-loop-at
decreases-loop-at l = length l.s - l.at
