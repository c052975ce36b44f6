-- Public: what an assignment comes to: the specification's worked rows (01, Sessions to check by hand), and the order
-- of refusals, by computation.
-- Assumes nothing.
use Rattle.std.specs.Prelude.{ℕ, zero, suc, ◌≡◌, refl, List, [], ◌∷◌, ◌++◌, ℤ, pos, negsuc}
use Rattle.topic_types.specs.KeyRanges.{key_range, new_key_range}
use Rattle.refusal.specs.declared.Refusal.TheVariants.{InvalidBucketRange, OverlappingBucketRanges, AttachmentMismatch}
use Rattle.refusal.specs.declared.Refusal.TheVariants.{DuplicateSegment, AssignmentTooLong, BucketOutsideSegment}
use Rattle.ranges.specs.Overlap.{overlaps_any, any_overlap}
use Rattle.slice.specs.Same.{same_bytes, starts_with}
use Rattle.name_parents.specs.Classes.{class_of}
use Rattle.name_parents.specs.Parents.{topic_scheme, before_slash, behind_slash, clean, has_three_parts, front_clean, is_path, is_parent, path_of}
use Rattle.name_topic.specs.Names.{hex4, decimal_within, decimal, descriptor, segment_topic}
use Rattle.wire_readers.specs.declared.IntRange.{IntRange}
use Rattle.wire_readers.specs.Messages.{WireSegment}
use Rattle.packed.specs.Assignment.{size_segment, size_segments, size_assignment}
use Rattle.packed.specs.Rows.{half, of_three, rising}
use Rattle.intake_content.specs.Content.{bucket_fault, first_outside, name_fault, segment_fault, first_refusal, assigned_segment, in_id_order, consumer_assignment}
use Rattle.intake_content.specs.Content.{Content, refused, taken, content_of}

-- topic://a/b/c
abbrev pub parent : List ℕ
parent = topic_scheme ++ (0x61 ∷ 0x2f ∷ 0x62 ∷ 0x2f ∷ 0x63 ∷ [])

-- segment://a/b/c/0000-7fff-0
abbrev pub name : List ℕ
name =
    0x73 ∷ 0x65 ∷ 0x67 ∷ 0x6d ∷ 0x65 ∷ 0x6e ∷ 0x74 ∷ 0x3a ∷ 0x2f ∷ 0x2f ∷ 0x61 ∷ 0x2f ∷ 0x62 ∷ 0x2f ∷ 0x63 ∷ 0x2f
    ∷ 0x30 ∷ 0x30 ∷ 0x30 ∷ 0x30 ∷ 0x2d ∷ 0x37 ∷ 0x66 ∷ 0x66 ∷ 0x66 ∷ 0x2d ∷ 0x30 ∷ []

-- segment id, from 0 to 7fff, under a name
abbrev pub wire_half : ℕ → List ℕ → List IntRange → WireSegment
wire_half id topic buckets = record { segment_id = id; hash_start = 0; hash_end = 0x7fff; segment_topic = topic; bucket_ranges = buckets }

-- under the name that it has to have
abbrev pub named : ℕ → List IntRange → WireSegment
named id buckets = wire_half id (segment_topic (path_of parent) (key_range 0 0x7fff) (record { 0 = id })) buckets

-- from 8000 to ffff
abbrev pub upper : List IntRange → WireSegment
upper buckets =
    record {
      segment_id = 0;
      hash_start = 0x8000;
      hash_end = 0xffff;
      segment_topic = segment_topic (path_of parent) (key_range 0x8000 0xffff) (record { 0 = 0 });
      bucket_ranges = buckets;
    }

abbrev pub range : ℤ → ℤ → IntRange
range start end = record { start = start; end = end }

-- n segments without buckets whose ids rise from id on, and behind them ws
abbrev pub rising_then : ℕ → ℕ → List WireSegment → List WireSegment
rising_then zero id ws = ws
rising_then (suc n) id ws = named id [] ∷ rising_then n (suc id) ws

-- what the segments come to, in an assignment of epoch 3
abbrev pub comes_to : List WireSegment → Content
comes_to ws = content_of parent (record { layout_epoch = 3; segments = ws })

abbrev pub buckets_of_one : List IntRange → Content
buckets_of_one buckets = comes_to (named 0 buckets ∷ [])

pub record Rows : Type 0 where
  -- A and B: the segment of row A comes to the assignment of row B
  pub row-a : comes_to (wire_half 0 name [] ∷ []) ≡ taken (of_three (half 0 [] ∷ []))
  -- G: 0-5 and 5-9 share a value, 0-5 and 6-9 do not
  pub row-g-shared : buckets_of_one (range (pos 0) (pos 5) ∷ range (pos 5) (pos 9) ∷ [])
      ≡ refused (OverlappingBucketRanges (record { 0 = 0 }))
  pub row-g-apart : buckets_of_one (range (pos 0) (pos 5) ∷ range (pos 6) (pos 9) ∷ [])
      ≡ taken (of_three (half 0 (key_range 0 5 ∷ key_range 6 9 ∷ []) ∷ []))
  -- H: 145 segments without buckets fit, 146 do not
  pub row-h-most : comes_to (rising_then 145 0 []) ≡ taken (of_three (rising 145 0))
  pub row-h-more : comes_to (rising_then 146 0 []) ≡ refused AssignmentTooLong
  -- 13 of the 147th segment comes before 15
  pub name-before-size : comes_to (rising_then 146 0 (wire_half 146 name [] ∷ [])) ≡ refused (AttachmentMismatch (record { 0 = 146 }))
  -- 10 of a later bucket comes before 11; its numbers are as they came
  pub bucket-before-overlap : buckets_of_one (range (pos 0) (pos 5) ∷ range (pos 5) (pos 9) ∷ range (pos 9) (pos 8) ∷ [])
      ≡ refused (InvalidBucketRange (record { 0 = 0 }) 2 (pos 9) (pos 8))
  pub bucket-negative : buckets_of_one (range (negsuc 0) (pos 5) ∷ []) ≡ refused (InvalidBucketRange (record { 0 = 0 }) 0 (negsuc 0) (pos 5))
  -- a bucket not wholly inside the segment's range is 34: the first such, at either end, behind 11, before 12 and 13
  pub outside-end : buckets_of_one (range (pos 0) (pos 5) ∷ range (pos 0x7fff) (pos 0x8000) ∷ range (pos 0x9000) (pos 0x9000) ∷ [])
      ≡ refused (BucketOutsideSegment (record { 0 = 0 }) 1)
  pub outside-start : comes_to (upper (range (pos 0x8000) (pos 0x8000) ∷ range (pos 0x7fff) (pos 0x7fff) ∷ []) ∷ [])
      ≡ refused (BucketOutsideSegment (record { 0 = 0 }) 1)
  pub inside-whole : buckets_of_one (range (pos 0) (pos 0x7fff) ∷ []) ≡ taken (of_three (half 0 (key_range 0 0x7fff ∷ []) ∷ []))
  pub overlap-before-outside : buckets_of_one (range (pos 0x7000) (pos 0x8000) ∷ range (pos 0x8000) (pos 0x8001) ∷ [])
      ≡ refused (OverlappingBucketRanges (record { 0 = 0 }))
  pub outside-before-name : comes_to (wire_half 1 name (range (pos 0) (pos 0x8000) ∷ []) ∷ [])
      ≡ refused (BucketOutsideSegment (record { 0 = 1 }) 0)
  pub outside-before-parent : content_of [] (record { layout_epoch = 3; segments = named 0 (range (pos 0) (pos 0x8000) ∷ []) ∷ [] })
      ≡ refused (BucketOutsideSegment (record { 0 = 0 }) 0)
  -- a repeated id is 14, but 13 comes first
  pub id-repeated : comes_to (named 0 [] ∷ named 7 [] ∷ named 0 [] ∷ []) ≡ refused (DuplicateSegment (record { 0 = 0 }))
  pub name-before-repeated : comes_to (named 7 [] ∷ wire_half 7 name [] ∷ []) ≡ refused (AttachmentMismatch (record { 0 = 7 }))
  -- segments come to id order
  pub in-id-order : comes_to (named 7 [] ∷ named 0 [] ∷ []) ≡ taken (of_three (half 0 [] ∷ half 7 [] ∷ []))

pub rows : Rows
unfolding new_key_range overlaps_any any_overlap same_bytes starts_with class_of before_slash behind_slash clean has_three_parts front_clean is_path is_parent hex4 decimal_within decimal descriptor segment_topic size_segment size_segments size_assignment bucket_fault first_outside name_fault segment_fault first_refusal assigned_segment in_id_order consumer_assignment content_of
rows =
    record {
      row-a = refl;
      row-g-shared = refl;
      row-g-apart = refl;
      row-h-most = refl;
      row-h-more = refl;
      name-before-size = refl;
      bucket-before-overlap = refl;
      bucket-negative = refl;
      outside-end = refl;
      outside-start = refl;
      inside-whole = refl;
      overlap-before-outside = refl;
      outside-before-name = refl;
      outside-before-parent = refl;
      id-repeated = refl;
      name-before-repeated = refl;
      in-id-order = refl;
    }
