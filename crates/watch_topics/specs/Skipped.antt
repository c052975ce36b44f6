-- Internal: cited by the contracts of helpers alone; whoever reads the claims may skip it.
--
-- Topics of a packed list that are passed over.
-- Assumes nothing.
use Rattle.std.specs.Prelude.{ℕ, ◌+◌, ◌≤◌, ◌≡◌, true, List, ◌++◌, length, drop}
use Rattle.watch_topics.specs.Packed.{size_topics, decode_topics, is_whole}

-- between the two places stand whole topics, and whole topics behind them
pub record Skipped (s : List ℕ) (from at : ℕ) : Type 0 where
  pub inside : at ≤ length s
  pub over : List (List ℕ)
  pub topics : decode_topics (drop from s) ≡ over ++ decode_topics (drop at s)
  pub place : at ≡ from + size_topics over
  pub whole : is_whole (drop at s) ≡ true
