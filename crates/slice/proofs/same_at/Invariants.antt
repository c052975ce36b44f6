-- `same_at` meets its contract. The invariant: `alike` of the first i places are alike. The measure is the bytes left of n.
-- Assumes nothing.
use Prim.Native.Nat.{ℕ, ◌-◌, ◌≤◌}
use mathlib.Core.List.{List}
use lib.ListN.{take, drop}
use Rattle.slice.proofs.SameLaws.{Alike}
use Rattle.slice.proofs.same_at.Given as goal

-- the n bytes from a place on
abbrev pub part : ℕ → List ℕ → ℕ → List ℕ
part n s at = take n (drop at s)

abbrev pub invariant-loop-i : goal.invariant-loop-i
invariant-loop-i l = (l.i ≤ l.n) × Alike (part l.n l.a l.at) (part l.n l.b l.at) l.i l.alike

abbrev pub decreases-loop-i : goal.decreases-loop-i
decreases-loop-i l = l.n - l.i
