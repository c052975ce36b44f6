-- Public: rows B and H of the worked values: the bytes of a packed assignment, and how many segments and buckets a slot
-- has room for. Each by computation; that 506 buckets are valid too is proofs/RowLaws, which does not compare them
-- pairwise.
-- Assumes nothing.
use Rattle.std.specs.Prelude.{ℕ, zero, suc, ◌≡◌, refl, true, false, List, [], ◌∷◌}
use Rattle.topic_types.specs.declared.KeyRange.{KeyRange}
use Rattle.topic_types.specs.KeyRanges.{key_range}
use Rattle.ranges.specs.Overlap.{any_overlap}
use Rattle.slice_int.specs.Be.{bytes_of}
use Rattle.packed.specs.Assignment.{AssignedSegment, ConsumerAssignment, encode_range, encode_ranges, encode_segment, encode_segments}
use Rattle.packed.specs.Assignment.{encode_assignment, size_segment, size_segments, size_assignment}
use Rattle.packed.specs.Assignment.{ok_assignment, ok_from, ok_segment, ok_buckets, all_in_order}

-- segment id, from 0 to 7fff
abbrev pub half : ℕ → List KeyRange → AssignedSegment
half id buckets = record { segment_id = id; range = key_range 0 0x7fff; buckets = buckets }

-- an assignment of epoch 3
abbrev pub of_three : List AssignedSegment → ConsumerAssignment
of_three segments = record { layout_epoch = 3; segments = segments }

-- n segments without buckets whose ids rise from id on
abbrev pub rising : (n id : ℕ) → List AssignedSegment
rising zero id = []
rising (suc n) id = half id [] ∷ rising n (suc id)

-- n buckets of one value each, from the value v on
abbrev pub points : ℕ → ℕ → List KeyRange
points zero v = []
points (suc n) v = key_range v v ∷ points n (suc v)

-- one segment with n buckets
abbrev pub bucketed : ℕ → ConsumerAssignment
bucketed n = of_three (half 0 (points n 0) ∷ [])

pub record Rows : Type 0 where
  -- row B: epoch 3, segment 0 from 0 to 7fff
  pub row-b : encode_assignment (of_three (half 0 [] ∷ []))
      ≡ 0 ∷ 0 ∷ 0 ∷ 0 ∷ 0 ∷ 0 ∷ 0 ∷ 3 ∷ 0 ∷ 1 ∷ 0 ∷ 0 ∷ 0 ∷ 0 ∷ 0 ∷ 0 ∷ 0 ∷ 0 ∷ 0 ∷ 0 ∷ 0x7f ∷ 0xff ∷ 0 ∷ 0 ∷ []
  -- row H: what fits into a slot, and what does not any more
  pub most-segments : size_assignment (of_three (rising 145 0)) ≡ 2040
  pub most-segments-ok : ok_assignment (of_three (rising 145 0)) ≡ true
  pub more-segments : size_assignment (of_three (rising 146 0)) ≡ 2054
  pub more-segments-not-ok : ok_assignment (of_three (rising 146 0)) ≡ false
  pub most-buckets : size_assignment (bucketed 506) ≡ 2048
  pub more-buckets : size_assignment (bucketed 507) ≡ 2052
  pub more-buckets-not-ok : ok_assignment (bucketed 507) ≡ false

pub rows : Rows
unfolding bytes_of encode_assignment encode_segments encode_segment encode_ranges encode_range size_assignment size_segments size_segment ok_assignment ok_from ok_segment ok_buckets all_in_order any_overlap
rows = record {
  row-b = refl;
  most-segments = refl;
  most-segments-ok = refl;
  more-segments = refl;
  more-segments-not-ok = refl;
  most-buckets = refl;
  more-buckets = refl;
  more-buckets-not-ok = refl;
}
