-- `last_after` meets its contract. The invariant: the last of the numbers from `at` on, or `last` where there is none, is the last of all,
-- or `before`. The measure is what is left of the message; each front stands inside it. Assumes nothing.
use Prim.Native.Nat.{◌-◌}
use lib.ListN.{length}
use Rattle.wire.specs.Fields.{fields_of}
use Rattle.wire_values.specs.Values.{numbers_of, last_after}
use Rattle.wire_values.proofs.FrontLaws.{numbers_from}
use Rattle.wire_values.proofs.WalkLaws.{Kept, found}
use Rattle.wire_values.proofs.last_after.Given as goal

abbrev pub invariant-loop-at : goal.invariant-loop-at
invariant-loop-at l = Kept found (last_after l.initial.last (numbers_of l.n (fields_of l.s))) l.last (numbers_from l.n l.s l.at)

abbrev pub decreases-loop-at : goal.decreases-loop-at
decreases-loop-at l = length l.s - l.at
