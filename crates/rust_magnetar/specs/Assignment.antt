-- Public: scalable_consumer.rs: `AssignedSegment`, `ConsumerAssignment`, `AssignmentError`, and how an assignment of a
-- message is decoded. The message's structs are those of the crate readers: `pb::ScalableAssignedSegment` is
-- `WireSegment`, `pb::ScalableConsumerAssignment` is `WireAssignment`.
-- Assumes nothing.
use Rattle.std.specs.Prelude.{ℕ, ◌-◌, ◌^◌, Bool, cond, not, ◌&&◌, leb, List, [], ◌∷◌, ◌++◌, map, ℤ, pos, negsuc, ◌==◌, nat_le, nat_lt, Option, Some, None}
use Rattle.topic_types.specs.declared.KeyRange.{KeyRange}
use Rattle.topic_types.specs.declared.KeyRangeError.{KeyRangeError}
use Rattle.topic_types.specs.declared.SegmentId.{SegmentId}
use Rattle.topic_types.specs.declared.ControllerIncarnation.{ControllerIncarnation}
use Rattle.wire_readers.specs.declared.IntRange.{IntRange}
use Rattle.wire_readers.specs.Messages.{WireSegment, WireAssignment}
use Rattle.rust_magnetar.specs.Result.{Result, Ok, Err, ◌>>=◌, map-err}
use Rattle.rust_magnetar.specs.Text.{Text, text-eq}
use Rattle.rust_magnetar.specs.Order.{Ordering, number-cmp}
use Rattle.rust_magnetar.specs.Collections.{Vec-eq, sort-by, windows-any, enumerate-map, collect-results}
use Rattle.rust_magnetar.specs.BTree.{BTreeSet-insert, BTreeSet-is-new}
use Rattle.rust_magnetar.specs.Ranges.{KeyRange-new, KeyRange-eq, KeyRange-le}
use Rattle.rust_magnetar.specs.SegmentTopic.{SegmentTopicError, canonical-segment-topic, SegmentSource}

-- AssignmentError (RegistrationMismatch is given by no function here)
pub data AssignmentError : Type 0 where
  ConsumerMismatch : (got expected : ℕ) → AssignmentError
  StaleEpoch : (got prev : ℕ) → AssignmentError
  IncarnationMismatch : (got expected : ControllerIncarnation) → AssignmentError
  NonAdvancingIncarnation : (got prev : ControllerIncarnation) → AssignmentError
  CrossIncarnationEpochRegression : (got floor : ℕ) → AssignmentError
  PreBaselineBufferFull : (max : ℕ) → AssignmentError
  DuplicateSegment : (segment-id : SegmentId) → AssignmentError
  InvalidRange : (segment-id : SegmentId) (source : KeyRangeError) → AssignmentError
  InvalidBucketRange : (segment-id : SegmentId) (index : ℕ) (start end : ℤ) → AssignmentError
  OverlappingBucketRanges : (segment-id : SegmentId) → AssignmentError
  AttachmentMismatch : (segment-id : SegmentId) (expected got : Text) → AssignmentError
  SegmentTopic : (source : SegmentTopicError) → AssignmentError
  Broker : (code : ℤ) (message : Text) → AssignmentError
  Empty : (request-id : ℕ) → AssignmentError

-- ---- AssignedSegment

pub record AssignedSegment : Type 0 where
  pub segment-id : SegmentId
  pub key-range : KeyRange
  pub bucket-ranges : List KeyRange
  pub segment-topic : Text

-- #[derive(PartialEq, Ord)] of SegmentId
abbrev pub SegmentId-eq : SegmentId → SegmentId → Bool
SegmentId-eq a b = a.0 == b.0

abbrev pub SegmentId-cmp : SegmentId → SegmentId → Ordering
SegmentId-cmp a b = number-cmp a.0 b.0

-- #[derive(PartialEq)]
abbrev pub AssignedSegment-eq : AssignedSegment → AssignedSegment → Bool
AssignedSegment-eq a b =
    SegmentId-eq a.segment-id b.segment-id
    && (KeyRange-eq a.key-range b.key-range
    && (Vec-eq KeyRange-eq a.bucket-ranges b.bucket-ranges && text-eq a.segment-topic b.segment-topic))

-- u32::try_from, of an i32
abbrev pub u32-try-from : ℤ → Option ℕ
u32-try-from (pos n) = Some n
u32-try-from (negsuc n) = None

-- let (Ok(start), Ok(end)) = (start, end) else { return Err(error) }; KeyRange::new(start, end).map_err(|_| error)
abbrev pub bucket-range-from : AssignmentError → Option ℕ → Option ℕ → Result KeyRange AssignmentError
bucket-range-from error None end = Err error
bucket-range-from error (Some start) None = Err error
bucket-range-from error (Some start) (Some end) = map-err (λ source. error) (KeyRange-new start end)

-- the closure over `pb.bucket_ranges`
abbrev pub bucket-range : SegmentId → ℕ → IntRange → Result KeyRange AssignmentError
bucket-range segment-id index range =
    bucket-range-from (InvalidBucketRange segment-id index range.start range.end) (u32-try-from range.start)
    (u32-try-from range.end)

-- AssignedSegment::try_from_pb
abbrev pub AssignedSegment-try-from-pb : WireSegment → Text → Result AssignedSegment AssignmentError
AssignedSegment-try-from-pb pb parent-topic = do
  let segment-id : SegmentId = record { 0 = pb.segment_id }
  key-range ← map-err (λ source. InvalidRange segment-id source) (KeyRange-new pb.hash_start pb.hash_end)
  bucket-ranges ← collect-results (enumerate-map (bucket-range segment-id) 0 pb.bucket_ranges)
  let sorted-bucket-ranges = sort-by KeyRange-le bucket-ranges
  cond (windows-any (λ first second. leb second.start first.end) sorted-bucket-ranges) (Err (OverlappingBucketRanges segment-id)) (do
    expected ← map-err SegmentTopic (canonical-segment-topic parent-topic key-range segment-id)
    cond (not (text-eq pb.segment_topic expected)) (Err (AttachmentMismatch segment-id expected pb.segment_topic))
        (Ok (record { segment-id = segment-id; key-range = key-range; bucket-ranges = bucket-ranges; segment-topic = pb.segment_topic })))

-- AssignedSegment::source
abbrev pub source : AssignedSegment → SegmentSource
source self = record { segment-id = self.segment-id; topic = self.segment-topic; key-range = self.key-range }

-- `x as i32`, of a u32: the same 32 bits, two's complement
abbrev pub as-i32 : ℕ → ℤ
as-i32 x = cond (nat_lt x (2 ^ 31)) (pos x) (negsuc (2 ^ 32 - 1 - x))

-- |range| pb::IntRange { start: range.start() as i32, end: range.end() as i32 }
abbrev pub range-to-pb : KeyRange → IntRange
range-to-pb range = record { start = as-i32 range.start; end = as-i32 range.end }

-- AssignedSegment::to_pb
abbrev pub AssignedSegment-to-pb : AssignedSegment → WireSegment
AssignedSegment-to-pb self =
    record {
      segment_id = self.segment-id.0;
      hash_start = self.key-range.start;
      hash_end = self.key-range.end;
      segment_topic = self.segment-topic;
      bucket_ranges = map range-to-pb self.bucket-ranges;
    }

-- ---- ConsumerAssignment

pub record ConsumerAssignment : Type 0 where
  pub layout-epoch : ℕ
  pub segments : List AssignedSegment

-- #[derive(PartialEq)]
abbrev pub ConsumerAssignment-eq : ConsumerAssignment → ConsumerAssignment → Bool
ConsumerAssignment-eq a b = a.layout-epoch == b.layout-epoch && Vec-eq AssignedSegment-eq a.segments b.segments

-- for segment in &pb.segments { .. }, with the vector `segments` and the set `ids` as they stand
abbrev pub segments-loop : Text → List WireSegment → List AssignedSegment → List SegmentId → Result (List AssignedSegment) AssignmentError
segments-loop parent-topic [] segments ids = Ok segments
segments-loop parent-topic (pb ∷ rest) segments ids = do
  segment ← AssignedSegment-try-from-pb pb parent-topic
  cond (not (BTreeSet-is-new SegmentId-cmp segment.segment-id ids)) (Err (DuplicateSegment segment.segment-id))
      (segments-loop parent-topic rest (segments ++ (segment ∷ [])) (BTreeSet-insert SegmentId-cmp segment.segment-id ids))

-- segments.sort_by_key(|s| s.segment_id)
abbrev pub id-le : AssignedSegment → AssignedSegment → Bool
id-le a b = nat_le a.segment-id.0 b.segment-id.0

-- ConsumerAssignment::try_from_pb
abbrev pub ConsumerAssignment-try-from-pb : WireAssignment → Text → Result ConsumerAssignment AssignmentError
ConsumerAssignment-try-from-pb pb parent-topic = do
  segments ← segments-loop parent-topic pb.segments [] []
  let sorted = sort-by id-le segments
  Ok (record { layout-epoch = pb.layout_epoch; segments = sorted })

-- ConsumerAssignment::to_pb
abbrev pub ConsumerAssignment-to-pb : ConsumerAssignment → WireAssignment
ConsumerAssignment-to-pb self = record { layout_epoch = self.layout-epoch; segments = map AssignedSegment-to-pb self.segments }

-- ConsumerAssignment::segment_topics
abbrev pub segment-topics : ConsumerAssignment → List Text
segment-topics self = map (λ (s : AssignedSegment). s.segment-topic) self.segments
