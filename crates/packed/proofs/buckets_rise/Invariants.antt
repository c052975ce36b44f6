-- `packed::buckets_rise` meets its contract.
-- The invariant: the ranges that are left, from the place p on, rise from `low` exactly if all do.
-- The measure is how many are left. Assumes nothing.
use Prim.Native.Nat.{◌+◌, ◌*◌}
use mathlib.Core.Path.{◌≡◌}
use lib.ListN.{drop}
use Rattle.ranges.specs.Overlap.{rising_from}
use Rattle.packed.specs.Assignment.{decode_ranges}
use Rattle.packed.proofs.buckets_rise.Given as goal

abbrev pub invariant-loop-left : goal.invariant-loop-left
invariant-loop-left l = (l.p + 4 * l.left ≡ l.at + 4 * l.n) × (rising_from l.from (decode_ranges l.n (drop l.at l.s)) ≡ rising_from l.low (decode_ranges l.left (drop l.p l.s)))

abbrev pub decreases-loop-left : goal.decreases-loop-left
decreases-loop-left l = l.left
