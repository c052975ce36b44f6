-- Internal: cited by the contracts of helpers alone; whoever reads the claims may skip it.
--
-- What is told of a bucket in a message's usual form.
-- Assumes nothing.
use Rattle.std.specs.Prelude.{ℕ, ◌+◌, ◌-◌, ◌≤◌, ◌≡◌, List, [], ◌∷◌, length, take, drop, Option, Some, None}
use Rattle.topic_types.specs.KeyRanges.{max_hash}
use Rattle.slice_int.specs.Be.{be_at}
use Rattle.wire.specs.declared.WireType.TheVariants as wire
use Rattle.wire.specs.Fields.{number, field, fields_of}
use Rattle.wire_ordered.specs.Ordered.{PartField}

-- the range that is told of is the one from start to end, in order and within the key space
abbrev pub RangeOf : (start end : ℕ) → Option (ℕ × ℕ) → Type 0
RangeOf start end (Some (s, e)) = (s ≡ start) × (e ≡ end) × (start ≤ end) × (end ≤ max_hash)
RangeOf start end None = Unit {0}

-- the part q is a range of the key space, and nothing else
pub record RangeRow (q : List ℕ) (start end : ℕ) : Type 0 where
  pub row : fields_of q ≡ field 1 wire.Varint (number start) ∷ field 2 wire.Varint (number end) ∷ []
  pub order : start ≤ end
  pub high : end ≤ max_hash

abbrev pub RangeIs : List ℕ → Option (ℕ × ℕ) → Type 0
RangeIs q (Some (start, end)) = RangeRow q start end
RangeIs q None = Unit {0}

-- the bytes of a bucket's field each number of which has three bytes
abbrev pub wide_size : ℕ
wide_size = 10

-- the word holds the 8 bytes of the part p from the second behind a place on
pub record WordIs (p : List ℕ) (at word : ℕ) : Type 0 where
  pub within : at + wide_size ≤ length p
  pub word-is : word ≡ be_at 8 p (at + 2)

-- field 5 stands in the part p from a place to another, and holds a range of the key space
pub record BucketAt (p : List ℕ) (at start end next : ℕ) : Type 0 where
  pub from : ℕ
  pub part : PartField 5 p at from next
  pub range : RangeRow (take (next - from) (drop from p)) start end

abbrev pub BucketIs : List ℕ → ℕ → Option (ℕ × ℕ × ℕ) → Type 0
BucketIs p at (Some (start, end, next)) = BucketAt p at start end next
BucketIs p at None = Unit {0}

-- the same of a field of so many bytes
abbrev pub WideIs : List ℕ → ℕ → Option (ℕ × ℕ) → Type 0
WideIs p at (Some (start, end)) = BucketAt p at start end (at + wide_size)
WideIs p at None = Unit {0}
