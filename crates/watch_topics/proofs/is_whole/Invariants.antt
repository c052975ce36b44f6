-- `topics::is_whole` meets its contract: lengths lead to the place `at`, so what is behind it decides. The measure is what is left.
-- Assumes nothing.
use Prim.Native.Nat.{ℕ, ◌-◌, ◌≤◌}
use mathlib.Core.List.{List}
use mathlib.Core.Path.{◌≡◌}
use lib.ListN.{length, drop}
use Rattle.watch_topics.specs.Packed.{is_whole}
use Rattle.watch_topics.proofs.is_whole.Given as goal

pub record Led (s : List ℕ) (at : ℕ) : Type 0 where
  pub within : at ≤ length s
  pub alike : is_whole s ≡ is_whole (drop at s)

abbrev pub invariant-loop-at : goal.invariant-loop-at
invariant-loop-at l = Led l.s l.at

abbrev pub decreases-loop-at : goal.decreases-loop-at
decreases-loop-at l = length l.s - l.at
