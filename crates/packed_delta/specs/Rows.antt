-- Public: rows C and E of the worked values, and the longest delta that a change can need, by computation.
-- Assumes nothing.
use Rattle.std.specs.Prelude.{ℕ, ◌≡◌, refl, [], ◌∷◌, length}
use Rattle.slice_int.specs.Be.{bytes_of}
use Rattle.topic_types.specs.KeyRanges.{key_range}
use Rattle.packed.specs.Assignment.{ConsumerAssignment, encode_range, encode_ranges, encode_segment, encode_segments, size_segment, size_segments}
use Rattle.packed.specs.Rows.{half, of_three, rising, points}
use Rattle.packed.specs.Equal.{same_ranges, same_segment}
use Rattle.packed_delta.specs.Delta.{encode_ids, encode_delta, size_delta}
use Rattle.packed_delta.specs.Change.{has_same, without, delta_between}

-- no segments, at epoch 2
abbrev pub empty : ConsumerAssignment
empty = record { layout_epoch = 2; segments = [] }

-- row B's assignment, at an epoch
abbrev pub one_half : ℕ → ConsumerAssignment
one_half epoch = record { layout_epoch = epoch; segments = half 0 [] ∷ [] }

-- one segment with two buckets, in one order and in the other
abbrev pub buckets_up : ConsumerAssignment
buckets_up = of_three (half 0 (key_range 0 5 ∷ key_range 6 9 ∷ []) ∷ [])

abbrev pub buckets_down : ConsumerAssignment
buckets_down = of_three (half 0 (key_range 6 9 ∷ key_range 0 5 ∷ []) ∷ [])

pub record Rows : Type 0 where
  -- row C: over an empty baseline of epoch 2, lost 0 and gained 1
  pub c-lost : length (delta_between empty (one_half 3)).lost ≡ 0
  pub c-gained : length (delta_between empty (one_half 3)).gained ≡ 1
  pub c-bytes : encode_delta (delta_between empty (one_half 3))
      ≡ 0 ∷ 0 ∷ 0 ∷ 0 ∷ 0 ∷ 0 ∷ 0 ∷ 3 ∷ 0 ∷ 0 ∷ 0 ∷ 1 ∷ 0 ∷ 0 ∷ 0 ∷ 0 ∷ 0 ∷ 0 ∷ 0 ∷ 0 ∷ 0 ∷ 0 ∷ 0x7f ∷ 0xff ∷ 0 ∷ 0 ∷ []
  -- row E: epoch 4 with the same segments, both counts 0
  pub e-bytes : encode_delta (delta_between (one_half 3) (one_half 4)) ≡ 0 ∷ 0 ∷ 0 ∷ 0 ∷ 0 ∷ 0 ∷ 0 ∷ 4 ∷ 0 ∷ 0 ∷ 0 ∷ 0 ∷ []
  -- buckets in another order: the segment is altered
  pub order-lost : (delta_between buckets_up buckets_down).lost ≡ 0 ∷ []
  pub order-gained : length (delta_between buckets_up buckets_down).gained ≡ 1
  -- 145 bare segments lost, one with 506 buckets gained
  pub longest : size_delta (delta_between (of_three (rising 145 1)) (of_three (half 0 (points 506 0) ∷ []))) ≡ 3210

pub rows : Rows
unfolding bytes_of encode_range encode_ranges encode_segment encode_segments size_segment size_segments same_ranges same_segment encode_ids encode_delta size_delta has_same without delta_between
rows = record { c-lost = refl; c-gained = refl; c-bytes = refl; e-bytes = refl; order-lost = refl; order-gained = refl; longest = refl }
