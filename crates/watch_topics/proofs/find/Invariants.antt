-- `topics::find` meets its contract: the topics before the place `at` stand before t, so its place is behind them. The measure is what
-- is left.
-- Assumes nothing.
use Prim.Native.Nat.{ℕ, ◌-◌, ◌≤◌}
use mathlib.Core.Bool.{true}
use mathlib.Core.List.{List}
use mathlib.Core.Path.{◌≡◌}
use lib.ListN.{length, drop}
use Rattle.watch_topics.specs.Packed.{decode_topics, is_whole, topic_place}
use Rattle.watch_topics.proofs.find.Given as goal

pub record Sought (s t : List ℕ) (at : ℕ) : Type 0 where
  pub within : at ≤ length s
  pub whole : is_whole (drop at s) ≡ true
  pub alike : topic_place t 0 (decode_topics s) ≡ topic_place t at (decode_topics (drop at s))

abbrev pub invariant-loop-at : goal.invariant-loop-at
invariant-loop-at l = Sought l.s l.t l.at

abbrev pub decreases-loop-at : goal.decreases-loop-at
decreases-loop-at l = length l.s - l.at
