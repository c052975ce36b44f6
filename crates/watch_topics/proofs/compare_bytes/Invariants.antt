-- `topics::compare_bytes` meets its contract: the bytes before i are alike, so what is behind them decides. The measure is what is left of a.
-- Assumes nothing.
use Prim.Native.Nat.{ℕ, ◌-◌, ◌≤◌}
use mathlib.Core.Path.{◌≡◌}
use mathlib.Core.List.{List}
use lib.ListN.{length, drop}
use Rattle.watch_topics.specs.Topics.{order}
use Rattle.watch_topics.proofs.compare_bytes.Given as goal

-- both have i bytes, and what is behind them decides their order
pub record Behind (a b : List ℕ) (i : ℕ) : Type 0 where
  pub first : i ≤ length a
  pub second : i ≤ length b
  pub order_is : order a b ≡ order (drop i a) (drop i b)

abbrev pub invariant-loop-i : goal.invariant-loop-i
invariant-loop-i l = Behind l.a l.b l.i

abbrev pub decreases-loop-i : goal.decreases-loop-i
decreases-loop-i l = length l.a - l.i
