-- `topics::is_utf8_list` meets its contract: the topics before the place `at` are UTF-8, so what is behind it decides. The measure is what
-- is left.
-- Assumes nothing.
use Prim.Native.Nat.{ℕ, ◌-◌, ◌≤◌}
use mathlib.Core.List.{List}
use mathlib.Core.Path.{◌≡◌}
use lib.ListN.{length, drop}
use Rattle.watch_topics.proofs.WalkLaws.{is_list}
use Rattle.watch_topics.proofs.is_utf8_list.Given as goal

pub record Listed (s : List ℕ) (at : ℕ) : Type 0 where
  pub within : at ≤ length s
  pub alike : is_list s ≡ is_list (drop at s)

abbrev pub invariant-loop-at : goal.invariant-loop-at
invariant-loop-at l = Listed l.s l.at

abbrev pub decreases-loop-at : goal.decreases-loop-at
decreases-loop-at l = length l.s - l.at
