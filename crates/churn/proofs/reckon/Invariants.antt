-- `churn::reckon` meets its contract. The invariant: sum and largest so far, with those of the places that are left,
-- are the whole; each count is at most 65,535.
-- Assumes nothing.
use Prim.Native.Nat.{◌+◌, ◌-◌, ◌*◌, ◌≤◌, max}
use mathlib.Core.Path.{◌≡◌}
use lib.ListN.{drop}
use Rattle.churn.specs.Churn.{sum_of, largest_of}
use Rattle.churn.specs.Window.{counts_in}
use Rattle.churn.proofs.reckon.Given as goal

abbrev pub invariant-loop-i : goal.invariant-loop-i
invariant-loop-i l = (l.sum ≤ 65535 * l.i)
    × (l.sum + sum_of (counts_in (l.n - l.i) (drop (2 + 2 * l.i) l.window)) ≡ sum_of (counts_in l.n (drop 2 l.window)))
    × (max l.largest (largest_of (counts_in (l.n - l.i) (drop (2 + 2 * l.i) l.window))) ≡ largest_of (counts_in l.n (drop 2 l.window)))
