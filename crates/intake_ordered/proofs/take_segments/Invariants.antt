-- `take_segments` meets its contract: segments alone, in whatever order.
-- The invariant: what is told of the segments from `at` on, written from `used` on, tells those from the first on. The measure is the bytes
-- left. Assumes nothing.
use Prim.Native.Nat.{ℕ, ◌+◌, ◌-◌, ◌*◌, ◌≤◌}
use mathlib.Core.Path.{◌≡◌}
use mathlib.Core.Bool.{Bool, true}
use mathlib.Core.List.{List}
use lib.ListN.{length}
use Rattle.intake_ordered.specs.Walk.{SegmentsFrom}
use Rattle.intake_ordered.proofs.take_segments.Given as goal

abbrev pub invariant-loop-at : goal.invariant-loop-at
invariant-loop-at l = (length l.b ≡ 2048) × (l.used ≤ 2048) × (10 + 14 * l.count ≤ l.used)
    × ((n to : ℕ) (after : Bool) (b' : List ℕ) → SegmentsFrom l.parent l.s l.at l.low l.rising l.b l.used n to after b'
    → SegmentsFrom l.parent l.s l.first 0 true l.initial.b 10 (l.count + n) to after b')

abbrev pub decreases-loop-at : goal.decreases-loop-at
decreases-loop-at l = length l.s - l.at
