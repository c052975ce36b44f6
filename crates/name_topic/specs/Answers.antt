-- Internal: cited by the contracts of helpers alone; whoever reads the claims may skip it.
--
-- What the helpers of src/ answer: the end of a name in an array.
-- Assumes nothing.
use Rattle.std.specs.Prelude.{ℕ, ◌≤◌, ◌≡◌, List, length, drop}
use Rattle.topic_types.specs.declared.KeyRange.{KeyRange}
use Rattle.topic_types.specs.declared.SegmentId.{SegmentId}
use Rattle.name_topic.specs.Names.{decimal, descriptor}
use Rattle.name_topic.specs.declared.descriptor.Tail.{Tail}

-- the bytes that the array ends with
abbrev pub tail_of : Tail → List ℕ
tail_of t = drop t.from t.bytes

-- n bytes still fit in front
pub record Room (n : ℕ) (t : Tail) : Type 0 where
  pub low : n ≤ t.from
  pub high : t.from ≤ 32
  pub long : length t.bytes ≡ 32

-- r is the number in decimal, and 12 bytes still fit
pub record DecimalIs (id : ℕ) (r : Tail) : Type 0 where
  pub room : Room 12 r
  pub tail : tail_of r ≡ decimal id

pub record DescriptorIs (range : KeyRange) (id : SegmentId) (r : Tail) : Type 0 where
  pub room : Room 0 r
  pub tail : tail_of r ≡ descriptor range id
