-- Internal: cited by the contracts of helpers alone; whoever reads the claims may skip it.
--
-- A part of a delta: its lost ids, or its gained records. Which of them is told by whether their entries attach.
-- Assumes nothing.
use Rattle.std.specs.Prelude.{ℕ, ◌+◌, ◌-◌, ◌*◌, ◌≤◌, ◌<◌, ◌≡◌, Bool, true, false, ◌&&◌, List, ◌++◌, map, length, take, drop}
use Rattle.packed.specs.Assignment.{id_of, decode_segment, decode_segments, size_segment, size_segments}
use Rattle.packed_delta.specs.Delta.{delta_head, id_size, decode_ids}
use Rattle.attach_entries.specs.declared.Entry.TheVariants.{Detach}
use Rattle.attach_entries.specs.Log.{entries_in}
use Rattle.attach_entries.specs.Passes.{attach_of}
use Rattle.attach_entries.specs.Follows.{all_in}
use Rattle.attach_rows.specs.Rows.{entry_for}
use Rattle.attach_log.specs.declared.Loaded.{Loaded}

-- the first n ids of a part
abbrev pub ids_in : (attach : Bool) (n : ℕ) → List ℕ → List ℕ
ids_in true n l = map id_of (decode_segments n l)
ids_in false n l = decode_ids n l

-- the bytes of its first id or record, and of its first n
abbrev pub size_first : (attach : Bool) → List ℕ → ℕ
size_first true l = size_segment (decode_segment l)
size_first false l = id_size

abbrev pub size_in : (attach : Bool) (n : ℕ) → List ℕ → ℕ
size_in true n l = size_segments (decode_segments n l)
size_in false n l = id_size * n

-- ids loaded into a row from the place `at` on, of n that stand there, and what is left of them
pub record Loading (attach : Bool) (s : List ℕ) (at n : ℕ) (next count : ℕ) (ids : List ℕ) : Type 0 where
  pub few : count ≤ n
  pub held : count ≤ length ids
  pub inside : next + size_in attach (n - count) (drop next s) ≤ length s
  pub whole : ids_in attach n (drop at s) ≡ take count ids ++ ids_in attach (n - count) (drop next s)

-- none only where there are none
abbrev pub LoadedIs : (attach : Bool) (s : List ℕ) (at n : ℕ) → Loaded → List ℕ → Type 0
LoadedIs attach s at n r ids = Loading attach s at n r.next r.count ids × (0 < n → 0 < r.count)

-- each id of the part has its entry among m
abbrev pub part_in : (attach : Bool) (s : List ℕ) (at n : ℕ) (log : List ℕ) (q m : ℕ) → Bool
part_in attach s at n log q m = all_in (map (entry_for attach) (ids_in attach n (drop at s))) (entries_in m (drop q log))

-- the front delta of s, with so many ids and records, has its entries at the front of the log
unfoldable pub delta_in : (s : List ℕ) (lost gained : ℕ) (log : List ℕ) → Bool
delta_in s lost gained log =
    all_in (map Detach (decode_ids lost (drop delta_head s))) (entries_in lost log)
    && all_in (map attach_of (decode_segments gained (drop (delta_head + id_size * lost) s))) (entries_in gained (drop (9 * lost) log))
