-- `packed::bucket_overlaps` meets its contract.
-- The invariant: the ranges that are left, from the place p on, decide the whole. The measure is how many are left. Assumes nothing.
use Prim.Native.Nat.{◌+◌, ◌*◌}
use mathlib.Core.Path.{◌≡◌}
use lib.ListN.{drop}
use Rattle.ranges.specs.Overlap.{overlaps_any}
use Rattle.packed.specs.Assignment.{decode_ranges}
use Rattle.packed.proofs.bucket_overlaps.Given as goal

abbrev pub invariant-loop-left : goal.invariant-loop-left
invariant-loop-left l = (l.p + 4 * l.left ≡ l.at + 4 * l.n) × (overlaps_any l.range (decode_ranges l.n (drop l.at l.s)) ≡ overlaps_any l.range (decode_ranges l.left (drop l.p l.s)))

abbrev pub decreases-loop-left : goal.decreases-loop-left
decreases-loop-left l = l.left
