-- `charge::lengths` meets its contract. The invariant: the sum and the lengths of the ranges that are left are the
-- whole; each length counted is at most 2^32.
-- Assumes nothing.
use Prim.Native.Nat.{◌+◌, ◌-◌, ◌*◌, ◌≤◌}
use mathlib.Core.Bool.{true}
use mathlib.Core.Path.{◌≡◌}
use lib.ListN.{drop}
use Rattle.packed.specs.Assignment.{decode_ranges, all_in_order}
use Rattle.charge.specs.Charge.{lengths_of}
use Rattle.charge.proofs.lengths.Given as goal

abbrev pub invariant-loop-i : goal.invariant-loop-i
invariant-loop-i l = (l.sum ≤ 4294967296 * l.i)
    × (all_in_order (decode_ranges (l.n - l.i) (drop (l.at + 4 * l.i) l.s)) ≡ true)
    × (l.sum + lengths_of (decode_ranges (l.n - l.i) (drop (l.at + 4 * l.i) l.s)) ≡ lengths_of (decode_ranges l.n (drop l.at l.s)))
