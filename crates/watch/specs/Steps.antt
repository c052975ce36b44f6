-- Internal: cited by the contracts of helpers alone; whoever reads the claims may skip it.
--
-- What the functions of src/ say of a diff where its set and its output are written.
-- Assumes nothing.
use Rattle.std.specs.Prelude.{ℕ, ◌+◌, ◌^◌, ◌≤◌, ◌<◌, ◌≡◌, ◌⊎◌, ⊤, false, ◌&&◌, List, take, leb, ltb, Result, Ok, Err}
use Rattle.refusal.specs.declared.Refusal.{Refusal}
use Rattle.refusal.specs.declared.Refusal.TheVariants.{SetTooLong, ResultTooLong}
use Rattle.watch_topics.specs.Packed.{decode_topics, size_topics}
use Rattle.watch_window.specs.Lists.{named_in, added_of, removed_of}
use Rattle.watch_merge.specs.Merge.{without}
use Rattle.watch.specs.Watch.{diff_in}

-- what is left of the set at the front of a buffer without the topics of a packed list
abbrev pub rest : (buffer : List ℕ) (used : ℕ) (removed : List ℕ) → List (List ℕ)
rest buffer used removed = without (decode_topics (take used buffer)) (decode_topics removed)

-- the lists of the diff that is field 3 of p, against the set old
abbrev pub added_in : List (List ℕ) → List ℕ → List (List ℕ)
added_in old p = added_of old (named_in 3 2 p) (named_in 3 1 p)

abbrev pub removed_in : List (List ℕ) → List ℕ → List (List ℕ)
removed_in old p = removed_of old (named_in 3 2 p)

-- its output fits a room, and so do its set and its output
pub record OutFits (old : List (List ℕ)) (p : List ℕ) (room : ℕ) : Type 0 where
  pub added : size_topics (added_in old p) < 2 ^ 32
  pub all : 5 + size_topics (added_in old p) + size_topics (removed_in old p) ≤ room

pub record DiffFits (old : List (List ℕ)) (p : List ℕ) (set_room out_room : ℕ) : Type 0 where
  pub set-fits : size_topics (diff_in old p).topics ≤ set_room
  pub out-fits : OutFits old p out_room

-- what is told of the rooms: both are large enough, or the set is longer than its buffer, or the set fits, but not the output
abbrev pub RoomIs : (old : List (List ℕ)) (p : List ℕ) (set_room out_room : ℕ) → Result ⊤ Refusal → Type 0
RoomIs old p set_room out_room (Ok u) = DiffFits old p set_room out_room
RoomIs old p set_room out_room (Err x) =
    ((x ≡ SetTooLong) × (set_room < size_topics (diff_in old p).topics))
    ⊎ ((x ≡ ResultTooLong)
    × (size_topics (diff_in old p).topics ≤ set_room)
    × ((ltb (size_topics (added_in old p)) (2 ^ 32) && leb (5 + size_topics (added_in old p) + size_topics (removed_in old p)) out_room) ≡ false))
