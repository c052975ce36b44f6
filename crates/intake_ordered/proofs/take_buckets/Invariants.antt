-- `take_buckets` meets its contract: ranges alone, each inside the segment's range.
-- The invariant: what is told of the buckets from `at` on, written from `to` on, tells those from the first on. The measure is the bytes
-- left. Assumes nothing.
use Prim.Native.Nat.{ℕ, ◌-◌, ◌≤◌}
use mathlib.Core.Path.{◌≡◌}
use mathlib.Core.Bool.{Bool, true}
use mathlib.Core.List.{List}
use lib.ListN.{length}
use Rattle.intake_ordered.specs.Walk.{BucketsFrom}
use Rattle.intake_ordered.proofs.take_buckets.Given as goal

abbrev pub invariant-loop-at : goal.invariant-loop-at
invariant-loop-at l = (length l.b ≡ length l.initial.b) × (l.to ≤ length l.b) × (l.low ≤ 65536)
    × ((end : ℕ) (after : Bool) (b' : List ℕ)
    → BucketsFrom l.p l.at l.lowest l.highest l.low l.rising l.b l.to end after b' → BucketsFrom l.p l.first l.lowest l.highest 0 true l.initial.b l.place end after b')

abbrev pub decreases-loop-at : goal.decreases-loop-at
decreases-loop-at l = length l.p - l.at
