-- Internal: cited by the contracts of helpers alone; whoever reads the claims may skip it.
--
-- What the functions below `take_ordered` tell of the parts of an assignment in its usual form.
--
-- A part is told by its row of fields, and what it holds by the value that stands for it: a range, a segment. What is told of a row that
-- is walked over is told from a place on, so that a turn of the walk puts one entry in front of those that follow.
-- Assumes nothing.
use Rattle.std.specs.Prelude.{ℕ, ◌+◌, ◌-◌, ◌*◌, ◌≤◌, ◌≡◌, Bool, true, List, ◌∷◌, map, length, take, drop, Option, Some, None}
use Rattle.topic_types.specs.declared.KeyRange.{KeyRange}
use Rattle.topic_types.specs.KeyRanges.{max_hash}
use Rattle.ranges.specs.Overlap.{rising_from}
use Rattle.slice_int.specs.Put.{put}
use Rattle.name_parents.specs.Parents.{path_of}
use Rattle.wire.specs.Fields.{fields_of}
use Rattle.wire_schema.specs.declared.MessageKind.TheVariants.{ScalableAssignedSegment, IntRange}
use Rattle.wire_schema.specs.FirstFault.{Sound}
use Rattle.wire_readers.specs.Messages.{int_range_of, read_segment}
use Rattle.packed.specs.Assignment.{assignment_head, bucket_size, AssignedSegment, encode_ranges, encode_segment, encode_segments, size_segment, size_segments, ok_segment, ok_from}
use Rattle.packed.specs.Fit.{FitRanges, FitSegment, FitSegments}
use Rattle.keyed.specs.Each.{Each}
use Rattle.intake_content.specs.Passing.{Passing}
use Rattle.intake_ordered.specs.declared.Head.{Head}
use Rattle.writer_message.specs.WireRows.{numbered, parted, part_row, wire_range, wire_segment}

-- ---- a segment's buckets

-- the range lies between low and high
pub record Inside (low high : ℕ) (r : KeyRange) : Type 0 where
  pub over : low ≤ r.start
  pub order : r.start ≤ r.end
  pub under : r.end ≤ high

-- from the place at on the part p has buckets alone, which lie between low and high; written from a place on, they end at the place to. Where the
-- flag `after` holds, `before` held, and they rise from a value on
pub record BucketsFrom (p : List ℕ) (at low high from : ℕ) (before : Bool) (b : List ℕ) (place to : ℕ) (after : Bool) (b' : List ℕ) : Type 0 where
  pub parts : List (List ℕ)
  pub ranges : List KeyRange
  pub row : fields_of (drop at p) ≡ part_row 5 parts
  pub valid : (d : ℕ) → Each (Sound d IntRange) parts
  pub says : map int_range_of parts ≡ map wire_range ranges
  pub fits : FitRanges ranges
  pub inside : Each (Inside low high) ranges
  pub rises : after ≡ true → (before ≡ true) × (rising_from from ranges ≡ true)
  pub to_is : to ≡ place + bucket_size * length ranges
  pub room : to ≤ length b
  pub wrote : b' ≡ put b place (encode_ranges ranges)

abbrev pub BucketsAre : (p : List ℕ) (at low high : ℕ) (b : List ℕ) (place : ℕ) (b' : List ℕ) → Option (ℕ × Bool) → Type 0
BucketsAre p at low high b place b' (Some (to, rising)) = BucketsFrom p at low high 0 true b place to rising b'
BucketsAre p at low high b place b' None = Unit {0}

-- ---- a segment

-- fields 1 to 4 stand at the front of the part p, the text from a place to another
pub record HeadRow (p : List ℕ) (id start end from to : ℕ) : Type 0 where
  pub row : fields_of p
      ≡ numbered 1 id ∷ numbered 2 start ∷ numbered 3 end ∷ parted 4 (take (to - from) (drop from p)) ∷ fields_of (drop to p)
  pub order : start ≤ end
  pub high : end ≤ max_hash
  pub ordered : from ≤ to
  pub within : to ≤ length p

abbrev pub HeadIs : List ℕ → Option Head → Type 0
HeadIs p (Some h) = HeadRow p h.id h.start h.end h.from h.to
HeadIs p None = Unit {0}

-- the part p says a segment that passes, and its record, written from a place on, ends at the place to
pub record SegmentTaken (parent p b : List ℕ) (used id to : ℕ) (b' : List ℕ) : Type 0 where
  pub segment : AssignedSegment
  pub valid : (d : ℕ) → Sound d ScalableAssignedSegment p
  pub says : read_segment p ≡ wire_segment (path_of parent) segment
  pub passes : Passing parent (wire_segment (path_of parent) segment)
  pub segment-ok : ok_segment segment ≡ true
  pub fits : FitSegment segment
  pub id-is : id ≡ (segment).segment_id
  pub to_is : to ≡ used + size_segment segment
  pub room : to ≤ length b
  pub wrote : b' ≡ put b used (encode_segment segment)

abbrev pub SegmentIs : (parent p b : List ℕ) (used : ℕ) (b' : List ℕ) → Option (ℕ × ℕ) → Type 0
SegmentIs parent p b used b' (Some (id, to)) = SegmentTaken parent p b used id to b'
SegmentIs parent p b used b' None = Unit {0}

-- ---- an assignment's segments

-- the record of the segment is well formed
abbrev pub OkSegment : AssignedSegment → Type 0
OkSegment g = ok_segment g ≡ true

-- from the place at on the part s has segments alone, so many, which pass; written from a place on, they end at the place to. Where the flag
-- `after` holds, `before` held, and their ids rise from low on
pub record SegmentsFrom (parent s : List ℕ) (at low : ℕ) (before : Bool) (b : List ℕ) (used count to : ℕ) (after : Bool) (b' : List ℕ) : Type 0 where
  pub parts : List (List ℕ)
  pub segments : List AssignedSegment
  pub row : fields_of (drop at s) ≡ part_row 2 parts
  pub valid : (d : ℕ) → Each (Sound d ScalableAssignedSegment) parts
  pub says : map read_segment parts ≡ map (wire_segment (path_of parent)) segments
  pub passes : Each (Passing parent) (map (wire_segment (path_of parent)) segments)
  pub segment-ok : Each OkSegment segments
  pub fits : FitSegments segments
  pub rises : after ≡ true → (before ≡ true) × (ok_from low segments ≡ true)
  pub count-is : count ≡ length segments
  pub to_is : to ≡ used + size_segments segments
  pub room : to ≤ length b
  pub wrote : b' ≡ put b used (encode_segments segments)

abbrev pub SegmentsAre : (parent s : List ℕ) (at : ℕ) (b b' : List ℕ) → Option (ℕ × ℕ × Bool) → Type 0
SegmentsAre parent s at b b' (Some (count, to, rising)) = SegmentsFrom parent s at 0 true b assignment_head count to rising b'
SegmentsAre parent s at b b' None = Unit {0}
