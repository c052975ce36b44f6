-- `difference::copy_bytes` meets its contract. The invariant: at least the first i bytes are copied (proofs/CopyLaws). The measure is what is left before the last eight.
-- Assumes nothing.
use Prim.Native.Nat.{◌+◌, ◌-◌, ◌≤◌}
use mathlib.Core.Path.{◌≡◌}
use lib.ListN.{length, take, drop}
use Rattle.slice_int.specs.Put.{put}
use Rattle.packed_diff.proofs.copy_bytes.Given as goal

abbrev pub invariant-loop-i : goal.invariant-loop-i
invariant-loop-i l = (l.i ≤ l.last + 8) × (length l.out ≡ length l.initial.out) × (l.out ≡ put l.initial.out l.at (take l.i (drop l.p l.x)))

abbrev pub decreases-loop-i : goal.decreases-loop-i
decreases-loop-i l = l.last - l.i
