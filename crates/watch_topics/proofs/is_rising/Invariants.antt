-- `topics::is_rising` meets its contract: the topics up to the place `at` rise, so what is behind it decides. The measure is what is left.
-- Assumes nothing.
use Prim.Native.Nat.{ℕ, ◌-◌, ◌≤◌}
use mathlib.Core.Bool.{true}
use mathlib.Core.List.{List}
use mathlib.Core.Path.{◌≡◌}
use lib.ListN.{length, drop}
use Rattle.watch_topics.specs.Packed.{decode_topics, is_whole}
use Rattle.watch_topics.specs.Topics.{rising}
use Rattle.watch_topics.proofs.is_rising.Given as goal

pub record Risen (s : List ℕ) (at : ℕ) : Type 0 where
  pub within : at ≤ length s
  pub whole : is_whole (drop at s) ≡ true
  pub alike : rising (decode_topics s) ≡ rising (decode_topics (drop at s))

abbrev pub invariant-loop-at : goal.invariant-loop-at
invariant-loop-at l = Risen l.s l.at

abbrev pub decreases-loop-at : goal.decreases-loop-at
decreases-loop-at l = length l.s - l.at
