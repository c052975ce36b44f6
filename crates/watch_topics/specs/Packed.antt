-- Public: the packed form of a list of topics (01, Watch): "each topic a 16-bit length and UTF-8 bytes".
-- Assumes nothing.
use Rattle.std.specs.Prelude.{ℕ, zero, suc, ◌+◌, Bool, true, false, ◌&&◌, List, [], ◌∷◌, ◌++◌, length, take, drop}
use Rattle.slice_int.specs.Be.{be, bytes_of}
use Rattle.utf8.specs.Table.{is_utf8}
use Rattle.watch_topics.specs.declared.Place.{Place}
use Rattle.watch_topics.specs.Topics.{order, by_order, rising}

unfoldable pub encode_topic : List ℕ → List ℕ
encode_topic t = bytes_of 2 (length t) ++ t

unfoldable pub encode_topics : List (List ℕ) → List ℕ
encode_topics [] = []
encode_topics (t ∷ ts) = encode_topic t ++ encode_topics ts

unfoldable pub size_topics : List (List ℕ) → ℕ
size_topics [] = 0
size_topics (t ∷ ts) = 2 + length t + size_topics ts

-- ---- reading, total

-- the length at the front
abbrev pub length_at : List ℕ → ℕ
length_at l = be (take 2 l)

-- the topics of bytes whose first n belong to a topic before
unfoldable pub topics_after : ℕ → List ℕ → List (List ℕ)
topics_after n [] = []
topics_after (suc n) (b ∷ l) = topics_after n l
topics_after zero (b ∷ l) = take (length_at (b ∷ l)) (drop 1 l) ∷ topics_after (suc (length_at (b ∷ l))) l

unfoldable pub decode_topics : List ℕ → List (List ℕ)
decode_topics l = topics_after 0 l

-- the lengths lead to the end of the bytes
unfoldable pub whole_after : ℕ → List ℕ → Bool
whole_after zero [] = true
whole_after (suc n) [] = false
whole_after (suc n) (b ∷ l) = whole_after n l
whole_after zero (b ∷ l) = whole_after (suc (length_at (b ∷ l))) l

unfoldable pub is_whole : List ℕ → Bool
is_whole l = whole_after 0 l

unfoldable pub all_utf8 : List (List ℕ) → Bool
all_utf8 [] = true
all_utf8 (t ∷ ts) = is_utf8 t && all_utf8 ts

-- the bytes are a set: "each topic a 16-bit length and UTF-8 bytes, rising in byte order, distinct"
unfoldable pub is_set : List ℕ → Bool
is_set l = is_whole l && (all_utf8 (decode_topics l) && rising (decode_topics l))

-- ---- where a topic stands, or would stand, in a rising list whose bytes start at a place
unfoldable pub topic_place : List ℕ → ℕ → List (List ℕ) → Place
topic_place t at [] = record { at = at; present = false }
topic_place t at (u ∷ us) =
    by_order (order t u) (record { at = at; present = false }) (record { at = at; present = true }) (topic_place t (at + (2 + length u)) us)
