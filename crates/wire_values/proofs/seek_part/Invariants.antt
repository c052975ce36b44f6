-- `seek_part` meets its contract: the invariant is what it ensures. The measure is what is left of the message; each front stands inside it.
-- Assumes nothing.
use Prim.Native.Nat.{◌-◌}
use mathlib.Core.Path.{◌≡◌}
use lib.ListN.{length}
use Rattle.wire_values.proofs.FrontLaws.{parts_from}
use Rattle.wire_values.proofs.seek_part.Given as goal

abbrev pub invariant-loop-at : goal.invariant-loop-at
invariant-loop-at l = parts_from l.n l.s l.from ≡ parts_from l.n l.s l.at

abbrev pub decreases-loop-at : goal.decreases-loop-at
decreases-loop-at l = length l.s - l.at
