-- `put_bytes` meets its contract. The invariant: the first i bytes are put. The measure is what is left of src.
-- Assumes nothing.
use Prim.Native.Nat.{ℕ, ◌+◌, ◌-◌, ◌≤◌, ◌<◌}
use native.Mathlib.Numerals.{add-one}
use native.Mathlib.Omega.{arith}
use mathlib.Core.Path.{◌≡◌, refl, sym, ap, ◌∙◌}
use mathlib.Core.List.{List}
use lib.ListN.{length, take, set, get_or, length-set}
use lib.Seq.{take-suc, take_all, length-take-le}
use Rattle.slice_int.specs.Put.{put}
use Rattle.slice_int.proofs.PutLaws.{put-nil, put-snoc, length-put}
use Rattle.slice_int.proofs.put_bytes.Given as goal

abbrev pub invariant-loop-i : goal.invariant-loop-i
invariant-loop-i l = (l.i ≤ length l.src) × (length l.out ≡ length l.initial.out) × (l.out ≡ put l.initial.out l.at (take l.i l.src))

abbrev pub decreases-loop-i : goal.decreases-loop-i
decreases-loop-i l = length l.src - l.i
