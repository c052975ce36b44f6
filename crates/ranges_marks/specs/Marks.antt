-- Public: a row of 1,024 words in which each value of the key space has a place: the value v is marked where place v %
-- 64 of the word v / 64 is set.
-- Assumes nothing.
use Rattle.std.specs.Prelude.{ℕ, ◌<◌, ◌≤◌, ◌/◌, ◌%◌, ◌≡◌, Bool, true, false, List, [], ◌∷◌, ◌++◌, length, get_or}
use Rattle.topic_types.specs.declared.KeyRange.{KeyRange}
use Rattle.ranges.specs.Overlap.{overlaps_any, any_overlap}
use Rattle.ranges.specs.Meaning.{Within}
use Rattle.ranges_marks.specs.Bits.{bit}

-- as many words as the key space needs, 64 values each
abbrev pub words : ℕ
words = 1024

-- as many ranges as one segment of a packed assignment can have buckets
abbrev pub row_size : ℕ
row_size = 506

-- the value is marked
unfoldable pub marked : List ℕ → ℕ → Bool
marked m v = bit (get_or m (v / 64) 0) (v % 64)

-- the range that has one value
abbrev pub point : ℕ → KeyRange
point v = record { start = v; end = v }

-- the range lies in the key space and is not reversed
pub record Valid (r : KeyRange) : Type 0 where
  pub in_order : r.start ≤ r.end
  pub small : r.end < 65536

pub data AllValid : List KeyRange → Type 0 where
  none : AllValid []
  more : {r : KeyRange} {rs : List KeyRange} → Valid r → AllValid rs → AllValid (r ∷ rs)

-- just the values of the ranges xs are marked
pub record Holds (m : List ℕ) (xs : List KeyRange) : Type 0 where
  pub long : length m ≡ words
  pub same : (v : ℕ) → v < 65536 → marked m v ≡ overlaps_any (point v) xs

-- the range r marked in m: whether a value of it was marked before, and the marks then
pub record Marking (m : List ℕ) (r : KeyRange) (t : Bool) (m' : List ℕ) : Type 0 where
  pub long : length m' ≡ length m
  pub found : Valid r → t ≡ true → ((v : ℕ) → Within v r → marked m v ≡ false) → ⊥
  pub free : Valid r → t ≡ false → (v : ℕ) → Within v r → marked m v ≡ false
  pub wrote : Valid r → t ≡ false → (v : ℕ) → Within v r → marked m' v ≡ true
  pub below : Valid r → t ≡ false → (v : ℕ) → v < r.start → marked m' v ≡ marked m v
  pub above : Valid r → t ≡ false → (v : ℕ) → r.end < v → marked m' v ≡ marked m v

-- the row marked in m, where xs without overlap were marked: whether two of xs and the row share a value
pub record RowMarking (m : List ℕ) (row : List KeyRange) (t : Bool) (m' : List ℕ) : Type 0 where
  pub long : length m' ≡ length m
  pub told : (xs : List KeyRange) → Holds m xs → AllValid (xs ++ row) → any_overlap xs ≡ false → t ≡ any_overlap (xs ++ row)
  pub holds : (xs : List KeyRange) → Holds m xs → AllValid (xs ++ row) → any_overlap xs ≡ false → t ≡ false → Holds m' (xs ++ row)
