-- Public: from the assignment of a read message to the assignment that a station holds, or to a refusal, 9 to 15 and 34:
-- `ConsumerAssignment::try_from_pb`, and 34, which the Rust does not know.
--
-- "per segment in wire order 9 to 14, 15" (01); 34 "directly after 11" (02 e): each segment is tested by itself (9, 10, 11, 34, 12, 13), then
-- its id against those before it (14). When all segments have passed, the packed assignment has to fit a slot (15).
-- Assumes nothing.
use Rattle.std.specs.Prelude.{ℕ, ◌+◌, ℤ, pos, negsuc, Bool, true, false, cond, ◌&&◌, List, [], ◌∷◌, map, leb, Option, Some, None, Result, Ok, Err}
use Rattle.topic_types.specs.declared.SegmentId.{SegmentId}
use Rattle.topic_types.specs.declared.KeyRange.{KeyRange}
use Rattle.topic_types.specs.KeyRanges.{key_range, new_key_range}
use Rattle.refusal.specs.declared.Refusal.{Refusal}
use Rattle.refusal.specs.declared.Refusal.TheVariants.{InvalidRange, InvalidBucketRange, OverlappingBucketRanges}
use Rattle.refusal.specs.declared.Refusal.TheVariants.{InvalidParent, AttachmentMismatch, DuplicateSegment, AssignmentTooLong}
use Rattle.refusal.specs.declared.Refusal.TheVariants.{BucketOutsideSegment}
use Rattle.slice.specs.Same.{same_bytes}
use Rattle.ranges.specs.Overlap.{any_overlap}
use Rattle.name_parents.specs.Parents.{is_parent, path_of}
use Rattle.name_topic.specs.Names.{segment_topic}
use Rattle.wire_readers.specs.declared.IntRange.{IntRange}
use Rattle.wire_readers.specs.Messages.{WireSegment, WireAssignment}
use Rattle.keyed.specs.Keyed.{or_else, self, holds, insert}
use Rattle.packed.specs.Assignment.{AssignedSegment, id_of, ConsumerAssignment, size_assignment, slot_size}
use Rattle.topic_types.specs.declared.KeyRangeError.{KeyRangeError}

abbrev pub wire_id : WireSegment → SegmentId
wire_id w = record { 0 = w.segment_id }

-- ---- one segment: 9, 10, 11, 34, 12, 13, `AssignedSegment::try_from_pb`

-- 9: "start above 65,535, then end above 65,535, then end below start"
abbrev pub range_fault_by : SegmentId → Result KeyRange KeyRangeError → Option Refusal
range_fault_by id (Ok r) = None
range_fault_by id (Err e) = Some (InvalidRange id e)

abbrev pub range_fault : WireSegment → Option Refusal
range_fault w = range_fault_by (wire_id w) (new_key_range w.hash_start w.hash_end)

-- "A bucket range also fails when negative."
abbrev pub is_valid : Result KeyRange KeyRangeError → Bool
is_valid (Ok r) = true
is_valid (Err e) = false

abbrev pub is_bucket : (start end : ℤ) → Bool
is_bucket (pos start) (pos end) = is_valid (new_key_range start end)
is_bucket (pos start) (negsuc end) = false
is_bucket (negsuc start) end = false

abbrev pub bucket_ok : IntRange → Bool
bucket_ok r = is_bucket r.start r.end

-- 10: the first bucket range that fails, with its place among the segment's and its ends as they came
unfoldable pub bucket_fault : SegmentId → ℕ → List IntRange → Option Refusal
bucket_fault id index [] = None
bucket_fault id index (r ∷ rs) = cond (bucket_ok r) (bucket_fault id (index + 1) rs) (Some (InvalidBucketRange id index r.start r.end))

-- the range that a valid one is
abbrev pub magnitude : ℤ → ℕ
magnitude (pos n) = n
magnitude (negsuc n) = 0

abbrev pub bucket_of : IntRange → KeyRange
bucket_of r = key_range (magnitude r.start) (magnitude r.end)

-- bucket ranges "keep wire order"
abbrev pub buckets_of : WireSegment → List KeyRange
buckets_of w = map bucket_of w.bucket_ranges

-- 11: bucket ranges "may not share a value"
abbrev pub overlap_fault : WireSegment → Option Refusal
overlap_fault w = cond (any_overlap (buckets_of w)) (Some (OverlappingBucketRanges (wire_id w))) None

-- 34: "A bucket not wholly inside is to be turned down" (02 e); the bucket lies wholly inside the segment's range
abbrev pub is_inside : (range bucket : KeyRange) → Bool
is_inside range bucket = leb range.start bucket.start && leb bucket.end range.end

-- "the first such bucket": its place, counted from index on
unfoldable pub first_outside : KeyRange → ℕ → List KeyRange → Option ℕ
first_outside range index [] = None
first_outside range index (b ∷ bs) = cond (is_inside range b) (first_outside range (index + 1) bs) (Some index)

-- "34 with segment id and bucket index (from 0)"
abbrev pub outside_fault_by : SegmentId → Option ℕ → Option Refusal
outside_fault_by id None = None
outside_fault_by id (Some index) = Some (BucketOutsideSegment id index)

abbrev pub outside_fault : WireSegment → Option Refusal
outside_fault w = outside_fault_by (wire_id w) (first_outside (key_range w.hash_start w.hash_end) 0 (buckets_of w))

-- the first such bucket of a stored list, in stored order, which rises by id
unfoldable pub outside_in : List AssignedSegment → Option Refusal
outside_in [] = None
outside_in (g ∷ gs) = or_else (outside_fault_by (record { 0 = g.segment_id }) (first_outside g.range 0 g.buckets)) (outside_in gs)

-- as the walks over buckets answer it
abbrev pub outside_of : Option ℕ → Option ℕ
outside_of None = None
outside_of (Some index) = Some index

-- the name that the segment has to have
abbrev pub expected_topic : List ℕ → WireSegment → List ℕ
expected_topic parent w = segment_topic (path_of parent) (key_range w.hash_start w.hash_end) (wire_id w)

-- 12, then 13
unfoldable pub name_fault : List ℕ → WireSegment → Option Refusal
name_fault parent w =
    cond (is_parent parent)
    (cond (same_bytes w.segment_topic (expected_topic parent w)) None (Some (AttachmentMismatch (wire_id w))))
    (Some InvalidParent)

unfoldable pub segment_fault : List ℕ → WireSegment → Option Refusal
segment_fault parent w =
    or_else (range_fault w) (or_else (bucket_fault (wire_id w) 0 w.bucket_ranges)
    (or_else (overlap_fault w) (or_else (outside_fault w) (name_fault parent w))))

-- ---- all segments

-- 14
abbrev pub duplicate_fault : List ℕ → WireSegment → Option Refusal
duplicate_fault seen w = cond (holds self w.segment_id seen) (Some (DuplicateSegment (wire_id w))) None

-- the first refusal in wire order; seen are the ids of the segments before
unfoldable pub first_refusal : (parent seen : List ℕ) → List WireSegment → Option Refusal
first_refusal parent seen [] = None
first_refusal parent seen (w ∷ ws) =
    or_else (segment_fault parent w) (or_else (duplicate_fault seen w) (first_refusal parent (w.segment_id ∷ seen) ws))

-- a segment as it is held
unfoldable pub assigned_segment : WireSegment → AssignedSegment
assigned_segment w = record { segment_id = w.segment_id; range = key_range w.hash_start w.hash_end; buckets = buckets_of w }

-- the segments, each put in its place by id
unfoldable pub in_id_order : List AssignedSegment → List WireSegment → List AssignedSegment
in_id_order done [] = done
in_id_order done (w ∷ ws) = in_id_order (insert id_of (assigned_segment w) done) ws

unfoldable pub consumer_assignment : WireAssignment → ConsumerAssignment
consumer_assignment a = record { layout_epoch = a.layout_epoch; segments = in_id_order [] a.segments }

-- ---- what the assignment comes to

pub data Content : Type 0 where
  refused : Refusal → Content
  taken : ConsumerAssignment → Content

-- 15: "sheet above 2,048"
abbrev pub within_slot : ConsumerAssignment → Content
within_slot a = cond (leb (size_assignment a) slot_size) (taken a) (refused AssignmentTooLong)

abbrev pub content_by : Option Refusal → ConsumerAssignment → Content
content_by (Some x) a = refused x
content_by None a = within_slot a

unfoldable pub content_of : List ℕ → WireAssignment → Content
content_of parent a = content_by (first_refusal parent [] a.segments) (consumer_assignment a)
