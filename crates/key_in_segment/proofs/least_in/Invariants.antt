-- `segment_key::least_in` meets its contract. The invariant: what was found so far and the ranges that are left, from
-- the i-th on, decide the whole. Assumes nothing.
use Prim.Native.Nat.{◌+◌, ◌-◌, ◌*◌}
use mathlib.Core.Path.{◌≡◌}
use lib.ListN.{drop}
use Rattle.key_in_segment.specs.Ends.{lesser_of, least_in}
use Rattle.packed.specs.Assignment.{decode_ranges}
use Rattle.key_in_segment.proofs.least_in.Given as goal

abbrev pub invariant-loop-i : goal.invariant-loop-i
invariant-loop-i l =
    least_in l.range (decode_ranges l.n (drop l.at l.s)) ≡ lesser_of l.best (least_in l.range (decode_ranges (l.n - l.i) (drop (l.at + 4 * l.i) l.s)))
