-- Internal: cited by the contracts of helpers alone; whoever reads the claims may skip it.
--
-- A packed set without the topics of a packed list, and with them.
-- Assumes nothing.
use Rattle.std.specs.Prelude.{ℕ, ◌≡◌, true, false, not, List}
use Rattle.keyed.specs.Keyed.{filter}
use Rattle.watch_topics.specs.Topics.{has, rising}
use Rattle.watch_topics.specs.Packed.{decode_topics, is_whole}

-- the topics of the first list that are not of the second
unfoldable pub without : List (List ℕ) → List (List ℕ) → List (List ℕ)
without old gone = filter (λ t. not (has t gone)) old

-- no topic is in both lists
abbrev pub Apart : List (List ℕ) → List (List ℕ) → Type 0
Apart a b = (t : List ℕ) → has t a ≡ true → has t b ≡ false

-- the bytes are a packed list whose topics rise
pub record Rises (l : List ℕ) : Type 0 where
  pub whole : is_whole l ≡ true
  pub rises : rising (decode_topics l) ≡ true
