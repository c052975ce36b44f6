-- Public: the calls on ranges given by their ends (01, The rest; `KeyRange` calls: 9, the first range before the
-- second).
-- Assumes nothing.
use Rattle.std.specs.Prelude.{ℕ, ◌+◌, ◌-◌, Bool, ◌&&◌, ◌||◌, leb, eqb, Result, Ok, Err}
use Rattle.topic_types.specs.declared.KeyRange.{KeyRange}
use Rattle.topic_types.specs.KeyRanges.{new_key_range}
use Rattle.refusal.specs.Steps.{◌>>=◌, take_range}
use Rattle.topic_types.specs.declared.KeyRangeError.{KeyRangeError}
use Rattle.refusal.specs.declared.Refusal.{Refusal}

-- ---- ranges

-- how many values a range has that is not reversed
abbrev pub values_in : KeyRange → ℕ
values_in r = r.end - r.start + 1

-- the hash lies in the range
abbrev pub holds : ℕ → KeyRange → Bool
holds hash r = leb r.start hash && leb hash r.end

-- the range a has every value of the range b
abbrev pub holds_range : (a b : KeyRange) → Bool
holds_range a b = leb a.start b.start && leb b.end a.end

-- one range ends right before the other starts
abbrev pub touches : (a b : KeyRange) → Bool
touches a b = eqb (a.end + 1) b.start || eqb (b.end + 1) a.start

-- ---- the calls

unfoldable pub length_of : (start end : ℕ) → Result ℕ Refusal
length_of start end = do
  r ← take_range Err (new_key_range start end)  -- 9
  Ok (values_in r)

unfoldable pub contains_of : (start end hash : ℕ) → Result Bool Refusal
contains_of start end hash = do
  r ← take_range Err (new_key_range start end)  -- 9
  Ok (holds hash r)

unfoldable pub contains_range_of : (start end other_start other_end : ℕ) → Result Bool Refusal
contains_range_of start end other_start other_end = do
  a ← take_range Err (new_key_range start end)  -- 9
  b ← take_range Err (new_key_range other_start other_end)  -- 9
  Ok (holds_range a b)

unfoldable pub is_adjacent_of : (start end other_start other_end : ℕ) → Result Bool Refusal
is_adjacent_of start end other_start other_end = do
  a ← take_range Err (new_key_range start end)  -- 9
  b ← take_range Err (new_key_range other_start other_end)  -- 9
  Ok (touches a b)

-- ---- Internal: both ranges, or the first error, as a helper answers them

unfoldable pub pair_by : (x y : Result KeyRange KeyRangeError) → Result (KeyRange × KeyRange) KeyRangeError
pair_by (Err e) y = Err e
pair_by (Ok a) (Err e) = Err e
pair_by (Ok a) (Ok b) = Ok (a, b)
