-- `hours::least_wait` meets its contract. The invariant: the least wait so far, with that for the windows that are
-- left, is the whole.
-- Assumes nothing.
use Prim.Native.Nat.{◌+◌, ◌-◌, ◌*◌, ◌≤◌, min}
use mathlib.Core.Bool.{true}
use mathlib.Core.Path.{◌≡◌}
use lib.ListN.{drop}
use Rattle.hours.specs.Steps.{least_wait}
use Rattle.hours.specs.Contract.{largest, spans_of, ok_spans}
use Rattle.hours.proofs.least_wait.Given as goal

abbrev pub invariant-loop-i : goal.invariant-loop-i
invariant-loop-i l = (ok_spans 604800 (spans_of (l.n - l.i) (drop (l.at + 16 * l.i) l.s)) ≡ true)
    × (min l.least (least_wait (spans_of (l.n - l.i) (drop (l.at + 16 * l.i) l.s)) l.moment)
    ≡ least_wait (spans_of l.n (drop l.at l.s)) l.moment)
    × (l.least ≤ largest)
