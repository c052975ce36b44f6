-- Internal: no claim cites it; whoever reads the claims may skip it.
--
-- The hypothesis of the law is needed: the smallest two deltas whose order shows, by computation.
--
-- One loses the id that the other gains, and neither names another. Lost first, the record is gained in the end;
-- gained first, it is struck. No smaller two show their order: a delta that names nothing is apart from every other,
-- and two that gain nothing join alike (`lost-commutes` of crates/packed_delta).
-- Assumes nothing.
use Rattle.std.specs.Prelude.{ℕ, ◌≡◌, refl, true, ◌&&◌, List, [], ◌∷◌, length, replicate, Ok}
use Rattle.ranges.specs.Overlap.{any_overlap}
use Rattle.slice_int.specs.Be.{be_from, be, bytes_of}
use Rattle.slice_int.specs.Put.{put}
use Rattle.packed.specs.Assignment.{encode_range, encode_ranges, encode_segment, encode_segments, size_segment, size_segments}
use Rattle.packed.specs.Assignment.{num, decode_range, decode_ranges, decode_segment, decode_segments}
use Rattle.packed.specs.Assignment.{all_in_order, ok_buckets, ok_segment, ok_from}
use Rattle.packed.specs.Rows.{half, of_three}
use Rattle.packed_delta.specs.Delta.{AssignmentDelta, encode_ids, encode_delta, size_delta}
use Rattle.packed_delta.specs.Delta.{decode_ids, decode_delta, ids_from, ok_delta, is_delta}
use Rattle.packed_delta.specs.Join.{strike, apply, names, join}
use Rattle.output.specs.Output.{written}
use Rattle.packed_join.specs.JoinOutcome.{joined_delta, join_outcome}

-- segment 0 is lost, at epoch 4
abbrev pub loses : AssignmentDelta
loses = record { layout_epoch = 4; lost = 0 ∷ []; gained = [] }

-- segment 0 is gained, at epoch 4 too
abbrev pub gains : AssignmentDelta
gains = record { layout_epoch = 4; lost = []; gained = half 0 [] ∷ [] }

-- an output of 40 bytes
abbrev pub room : List ℕ
room = replicate 40 0

pub record Needed : Type 0 where
  pub both-name : (names loses 0 && names gains 0) ≡ true
  -- the gained records of the two joins
  pub lost-first : (join loses gains).gained ≡ half 0 [] ∷ []
  pub gained-first : (join gains loses).gained ≡ []
  -- what they make of an assignment without segments
  pub lost-first-applied : (apply (join loses gains) (of_three [])).segments ≡ half 0 [] ∷ []
  pub gained-first-applied : (apply (join gains loses) (of_three [])).segments ≡ []
  -- what the call answers, of 20 and 26 bytes
  pub lost-bytes : length (encode_delta loses) ≡ 20
  pub gained-bytes : length (encode_delta gains) ≡ 26
  pub lost-first-answer : (join_outcome (encode_delta loses) (encode_delta gains) room).answer ≡ Ok 34
  pub gained-first-answer : (join_outcome (encode_delta gains) (encode_delta loses) room).answer ≡ Ok 20

pub needed : Needed
unfolding be_from be bytes_of put encode_range encode_ranges encode_segment encode_segments size_segment size_segments num decode_range decode_ranges decode_segment decode_segments all_in_order ok_buckets ok_segment ok_from encode_ids encode_delta size_delta decode_ids decode_delta ids_from ok_delta is_delta strike apply join written joined_delta join_outcome any_overlap
needed =
    record {
      both-name = refl;
      lost-first = refl;
      gained-first = refl;
      lost-first-applied = refl;
      gained-first-applied = refl;
      lost-bytes = refl;
      gained-bytes = refl;
      lost-first-answer = refl;
      gained-first-answer = refl;
    }
