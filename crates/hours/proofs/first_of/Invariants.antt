-- `hours::first_of` meets its contract. The invariant: the first second so far, with that of the terms that are left,
-- is the whole.
-- Assumes nothing.
use Prim.Native.Nat.{◌+◌, ◌-◌, ◌*◌, ◌≤◌, min}
use mathlib.Core.Path.{◌≡◌}
use lib.ListN.{drop}
use Rattle.hours.specs.Steps.{first_of}
use Rattle.hours.specs.Contract.{largest, spans_of}
use Rattle.hours.proofs.first_of.Given as goal

abbrev pub invariant-loop-i : goal.invariant-loop-i
invariant-loop-i l =
    (min l.first (first_of (spans_of (l.terms - l.i) (drop (4 + 16 * l.i) l.s)) (spans_of l.windows (drop (4 + 16 * l.terms) l.s)) l.second)
    ≡ first_of (spans_of l.terms (drop 4 l.s)) (spans_of l.windows (drop (4 + 16 * l.terms) l.s)) l.second)
    × (l.first ≤ largest)
