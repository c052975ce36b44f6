-- One segment of a message: the Rust's `AssignedSegment::try_from_pb` refuses it and takes it as this port does (`segment-agrees`), the
-- first refusal with its numbers.
-- Assumes nothing.
use Rattle.std.specs.Prelude as std
use Rattle.std.specs.Prelude.{Option, Some, None}
use Prim.Native.Nat.{ℕ, ◌+◌}
use native.Mathlib.Omega.{arith}
use mathlib.Core.Path.{◌≡◌, refl, ap, ◌∙◌}
use mathlib.Core.Bool.{Bool, true, false, cond, not}
use mathlib.Core.List.{List, [], ◌∷◌, map}
use lib.IntN.{ℤ, pos, negsuc}
use lib.Dec.{ltb, leb}
use Rattle.topic_types.specs.declared.KeyRange.{KeyRange}
use Rattle.topic_types.specs.declared.KeyRangeError.TheVariants.{StartOutOfBounds, EndOutOfBounds, Reversed}
use Rattle.topic_types.specs.declared.SegmentId.{SegmentId}
use Rattle.topic_types.specs.KeyRanges.{max_hash, key_range, new_key_range}
use Rattle.topic_types.proofs.KeyRangeLaws.{new-valid}
use Rattle.refusal.specs.declared.Refusal.{Refusal}
use Rattle.refusal.specs.declared.Refusal.TheVariants as refusal
use Rattle.slice.specs.Same.{same_bytes}
use Rattle.slice.proofs.SameLaws.{same-eq}
use Rattle.name_parents.specs.Parents.{is_parent}
use Rattle.ranges.specs.Overlap.{any_overlap}
use Rattle.wire_readers.specs.declared.IntRange.{IntRange}
use Rattle.wire_readers.specs.Messages.{WireSegment}
use Rattle.keyed.specs.Keyed.{or_else}
use Rattle.intake_content.specs.Content.{wire_id, range_fault_by, range_fault, is_valid, is_bucket, bucket_ok, bucket_fault, magnitude, bucket_of}
use Rattle.intake_content.specs.Content.{buckets_of, overlap_fault, first_outside, outside_fault_by, outside_fault, expected_topic, name_fault}
use Rattle.intake_content.specs.Content.{segment_fault, assigned_segment}
use Rattle.intake_content.proofs.SoundLaws.{unless-none, bucket-sound}
use Rattle.rust_magnetar.specs.Result.{Result, Ok, Err, ◌>>=◌, map-err}
use Rattle.rust_magnetar.specs.Text.{Text, text-eq}
use Rattle.rust_magnetar.specs.Collections.{sort-by, windows-any, enumerate-map, collect-results}
use Rattle.rust_magnetar.specs.Ranges.{KeyRange-new, KeyRange-le}
use Rattle.rust_magnetar.specs.SegmentTopic as topic
use Rattle.rust_magnetar.specs.SegmentTopic.{canonical-segment-topic}
use Rattle.rust_magnetar.specs.Assignment.{AssignmentError, InvalidRange, InvalidBucketRange, OverlappingBucketRanges, AttachmentMismatch}
use Rattle.rust_magnetar.specs.Assignment.{SegmentTopic, AssignedSegment, u32-try-from, bucket-range-from, bucket-range}
use Rattle.rust_magnetar.specs.Assignment.{AssignedSegment-try-from-pb}
use Rattle.rust_names.specs.Agree.{range_of, is_marked}
use Rattle.rust_names.proofs.TextAgrees.{text_same}
use Rattle.rust_names.proofs.RangeAgrees.{new-agrees}
use Rattle.rust_names.proofs.ParentAgrees.{segment-topic-agrees}
use Rattle.rust_session.specs.Paper.{paper}
use Rattle.rust_session.specs.Values.{as_segment}
use Rattle.rust_session.proofs.Verdicts.{verdict, seq, Agreed, seq-agreed, test-agreed, or-none, or-unless}
use Rattle.rust_session.proofs.OverlapAgrees.{Ordered, windows-agree}
use Rattle.rust_session.proofs.OursLaws.{Ours}
use Rattle.topic_types.specs.declared.KeyRangeError.{KeyRangeError}

-- ---- ranges

range-agrees : (id : SegmentId) (a b : ℕ)
    → map-err paper (map-err (λ source. InvalidRange id source) (KeyRange-new a b))
    ≡ verdict (range_fault_by id (new_key_range a b)) (key_range a b)
unfolding new_key_range
range-agrees id a b = go (ltb max_hash a) (ltb max_hash b) (ltb b a)
  where
    go : (t u v : Bool)
        → map-err paper (map-err (λ source. InvalidRange id source)
        (cond t (Err (StartOutOfBounds a)) (cond u (Err (EndOutOfBounds b)) (cond v (Err (Reversed a b)) (Ok (key_range a b))))))
        ≡ verdict (range_fault_by id (cond t (std.Err (StartOutOfBounds a)) (cond u (std.Err (EndOutOfBounds b))
        (cond v (std.Err (Reversed a b)) (std.Ok (key_range a b)))))) (key_range a b)
    go true u v = refl
    go false true v = refl
    go false false true = refl
    go false false false = refl

-- with no fault the Rust makes the range
range-made : (id : SegmentId) (a b : ℕ) → range_fault_by id (new_key_range a b) ≡ None → KeyRange-new a b ≡ Ok (key_range a b)
range-made id a b n = new-agrees a b ∙ go (new_key_range a b) refl n
  where
    go : (x : std.Result KeyRange KeyRangeError) → new_key_range a b ≡ x → range_fault_by id x ≡ None → range_of x ≡ Ok (key_range a b)
    go (std.Ok r) p n = ap (λ (q : KeyRange). Ok q) (new-valid a b r p).made
    go (std.Err e) p n = let z : ◌≡◌ {A = ℕ} 0 1 = cc in absurd (omega arith)

-- with one error for all of its errors
valid-agrees : (e : AssignmentError) (a b : ℕ)
    → map-err paper (map-err (λ source. e) (KeyRange-new a b))
    ≡ verdict (cond (is_valid (new_key_range a b)) None (Some (paper e))) (key_range a b)
unfolding new_key_range
valid-agrees e a b = go (ltb max_hash a) (ltb max_hash b) (ltb b a)
  where
    go : (t u v : Bool)
        → map-err paper (map-err (λ source. e)
        (cond t (Err (StartOutOfBounds a)) (cond u (Err (EndOutOfBounds b)) (cond v (Err (Reversed a b)) (Ok (key_range a b))))))
        ≡ verdict (cond (is_valid (cond t (std.Err (StartOutOfBounds a)) (cond u (std.Err (EndOutOfBounds b))
        (cond v (std.Err (Reversed a b)) (std.Ok (key_range a b)))))) None (Some (paper e))) (key_range a b)
    go true u v = refl
    go false true v = refl
    go false false true = refl
    go false false false = refl

-- ---- bucket ranges

one-bucket : (e : AssignmentError) (a b : ℤ)
    → map-err paper (bucket-range-from e (u32-try-from a) (u32-try-from b))
    ≡ verdict (cond (is_bucket a b) None (Some (paper e))) (key_range (magnitude a) (magnitude b))
one-bucket e (negsuc a) b = refl
one-bucket e (pos a) (negsuc b) = refl
one-bucket e (pos a) (pos b) = valid-agrees e a b

pub buckets-agree : (id : SegmentId) (index : ℕ) (rs : List IntRange)
    → map-err paper (collect-results (enumerate-map (bucket-range id) index rs)) ≡ verdict (bucket_fault id index rs) (map bucket_of rs)
unfolding bucket_fault
buckets-agree id index [] = refl
buckets-agree id index (r ∷ rs) =
    seq paper (bucket-range id index r) (cond (bucket_ok r) None (Some fault)) (bucket_of r)
    (one-bucket (InvalidBucketRange id index r.start r.end) r.start r.end) _ later (bucket_of r ∷ map bucket_of rs)
    (λ n.
    seq paper (collect-results (enumerate-map (bucket-range id) (index + 1) rs)) later (map bucket_of rs) (buckets-agree id (index + 1) rs) _
    None (bucket_of r ∷ map bucket_of rs) (λ m. refl)
    ∙ ap (λ o. verdict o (bucket_of r ∷ map bucket_of rs)) (or-none later))
    ∙ ap (λ o. verdict o (bucket_of r ∷ map bucket_of rs)) (or-unless (bucket_ok r) fault later)
  where
    fault : Refusal
    fault = refusal.InvalidBucketRange id index r.start r.end

    later : Option Refusal
    later = bucket_fault id (index + 1) rs

-- with no fault no bucket is reversed
buckets-ordered : (id : SegmentId) (index : ℕ) (rs : List IntRange) → bucket_fault id index rs ≡ None → Ordered (map bucket_of rs)
unfolding bucket_fault
buckets-ordered id index [] e = tt
buckets-ordered id index (r ∷ rs) e =
    let p = unless-none (bucket_ok r) (refusal.InvalidBucketRange id index r.start r.end) (bucket_fault id (index + 1) rs) e in
    ((bucket-sound r p.0).order, buckets-ordered id (index + 1) rs p.1)

-- ---- the segment, from each `?` on

abbrev made : WireSegment → KeyRange → List KeyRange → Text → AssignedSegment
made w range buckets name = record { segment-id = wire_id w; key-range = range; bucket-ranges = buckets; segment-topic = name }

abbrev attached : WireSegment → KeyRange → List KeyRange → Text → Result AssignedSegment AssignmentError
attached w range buckets expected =
    cond (not (text-eq w.segment_topic expected)) (Err (AttachmentMismatch (wire_id w) expected w.segment_topic))
    (Ok (made w range buckets w.segment_topic))

abbrev named : Text → WireSegment → KeyRange → List KeyRange → Result AssignedSegment AssignmentError
named parent w range buckets = map-err SegmentTopic (canonical-segment-topic parent range (wire_id w)) >>= attached w range buckets

abbrev apart : Text → WireSegment → KeyRange → List KeyRange → Result AssignedSegment AssignmentError
apart parent w range buckets =
    cond (windows-any (λ a b. leb b.start a.end) (sort-by KeyRange-le buckets)) (Err (OverlappingBucketRanges (wire_id w)))
    (named parent w range buckets)

abbrev bucketed : Text → WireSegment → KeyRange → Result AssignedSegment AssignmentError
bucketed parent w range = collect-results (enumerate-map (bucket-range (wire_id w)) 0 w.bucket_ranges) >>= apart parent w range

module _ (parent : Text) (unmarked : is_marked parent ≡ false) (w : WireSegment) where
  abbrev range : KeyRange
  range = key_range w.hash_start w.hash_end

  attach-agrees : (b : Bool) → same_bytes w.segment_topic (expected_topic parent w) ≡ b
      → map-err paper (attached w range (buckets_of w) (expected_topic parent w))
      ≡ verdict (cond b None (Some (refusal.AttachmentMismatch (wire_id w)))) (made w range (buckets_of w) (expected_topic parent w))
  attach-agrees true e =
      rw (text_same w.segment_topic (expected_topic parent w), e)
      (ap (λ t. Ok (made w range (buckets_of w) t)) (same-eq w.segment_topic (expected_topic parent w) e))
  attach-agrees false e = rw (text_same w.segment_topic (expected_topic parent w), e)

  names-agree : KeyRange-new w.hash_start w.hash_end ≡ Ok range
      → map-err paper (named parent w range (buckets_of w)) ≡ verdict (name_fault parent w) (as_segment parent (assigned_segment w))
  unfolding name_fault assigned_segment
  names-agree new =
      ap (λ m. map-err paper (map-err SegmentTopic m >>= attached w range (buckets_of w)))
      (segment-topic-agrees parent range (wire_id w) unmarked new)
      ∙ go (is_parent parent)
    where
      go : (b : Bool)
          → map-err paper
          (map-err SegmentTopic (cond b (Ok (expected_topic parent w)) (Err (topic.InvalidParent parent))) >>= attached w range (buckets_of w))
          ≡ verdict
          (cond b (cond (same_bytes w.segment_topic (expected_topic parent w)) None (Some (refusal.AttachmentMismatch (wire_id w))))
          (Some refusal.InvalidParent)) (made w range (buckets_of w) (expected_topic parent w))
      go true = attach-agrees (same_bytes w.segment_topic (expected_topic parent w)) refl
      go false = refl

  -- 34: the Rust does not ask
  inside-agrees : range_fault w ≡ None
      → Agreed Ours paper (named parent w range (buckets_of w)) (or_else (outside_fault w) (name_fault parent w))
      (as_segment parent (assigned_segment w))
  inside-agrees n = go (first_outside range 0 (buckets_of w))
    where
      go : (o : Option ℕ)
          → Agreed Ours paper (named parent w range (buckets_of w)) (or_else (outside_fault_by (wire_id w) o) (name_fault parent w))
          (as_segment parent (assigned_segment w))
      go None = Agreed.agree (names-agree (range-made (wire_id w) w.hash_start w.hash_end n))
      go (Some i) = Agreed.mine (refusal.BucketOutsideSegment (wire_id w) i) refl refl

  pub segment-agrees : Agreed Ours paper (AssignedSegment-try-from-pb w parent) (segment_fault parent w) (as_segment parent (assigned_segment w))
  unfolding segment_fault
  segment-agrees =
      seq-agreed Ours paper (map-err (λ source. InvalidRange (wire_id w) source) (KeyRange-new w.hash_start w.hash_end)) (range_fault w) range
      (Agreed.agree (range-agrees (wire_id w) w.hash_start w.hash_end)) (bucketed parent w)
      (or_else (bucket_fault (wire_id w) 0 w.bucket_ranges) (or_else (overlap_fault w) others)) x (λ n.
      seq-agreed Ours paper (collect-results (enumerate-map (bucket-range (wire_id w)) 0 w.bucket_ranges))
      (bucket_fault (wire_id w) 0 w.bucket_ranges) (buckets_of w)
      (Agreed.agree (buckets-agree (wire_id w) 0 w.bucket_ranges)) (apart parent w range) (or_else (overlap_fault w) others) x (λ m.
      test-agreed Ours paper (windows-any (λ a b. leb b.start a.end) (sort-by KeyRange-le (buckets_of w))) (any_overlap (buckets_of w))
      (windows-agree (buckets_of w) (buckets-ordered (wire_id w) 0 w.bucket_ranges m)) (OverlappingBucketRanges (wire_id w))
      (named parent w range (buckets_of w)) others x (λ u. inside-agrees n)))
    where
      x : AssignedSegment
      x = as_segment parent (assigned_segment w)

      others : Option Refusal
      others = or_else (outside_fault w) (name_fault parent w)
