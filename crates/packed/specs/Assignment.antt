-- Public: the packed assignment (01's sheet): its value, the bytes that stand for it, and the value that bytes stand
-- for.
--
-- "epoch 64 bits, segment count 16; each segment: id 64, start 16, end 16, bucket count 16, then start 16 and end 16 per bucket", most significant bit first.
-- Reading is total: `decode_assignment` gives what the bytes say, whatever they are, and `starts_assignment` tests afterwards whether they may say it. What stands behind a
-- packed assignment in a slot is not looked at; lent alone, nothing may stand there.
-- Assumes nothing.
use Rattle.std.specs.Prelude.{ℕ, zero, suc, ◌+◌, ◌*◌, Bool, true, not, ◌&&◌, List, [], ◌∷◌, ◌++◌, length, take, drop, leb, eqb}
use Rattle.topic_types.specs.declared.KeyRange.{KeyRange}
use Rattle.topic_types.specs.KeyRanges.{key_range}
use Rattle.ranges.specs.Overlap.{any_overlap}
use Rattle.slice_int.specs.Be.{be, bytes_of}

-- the most bytes of a packed assignment: a slot
abbrev pub slot_size : ℕ
slot_size = 2048

-- the bytes before the records of an assignment; of a record before its buckets; of a bucket
abbrev pub assignment_head : ℕ
assignment_head = 10

abbrev pub record_head : ℕ
record_head = 14

abbrev pub bucket_size : ℕ
bucket_size = 4

-- places: of the count of segments in an assignment; of the range and the count of buckets in a record; of the end in a range
abbrev pub assignment_count : ℕ
assignment_count = 8

abbrev pub record_range : ℕ
record_range = 8

abbrev pub record_count : ℕ
record_count = 12

abbrev pub range_end : ℕ
range_end = 2

-- ---- values

pub record AssignedSegment : Type 0 where
  pub segment_id : ℕ
  pub range : KeyRange
  pub buckets : List KeyRange

-- a segment's key
abbrev pub id_of : AssignedSegment → ℕ
id_of g = g.segment_id

pub record ConsumerAssignment : Type 0 where
  pub layout_epoch : ℕ
  pub segments : List AssignedSegment

-- ---- from a value to bytes

unfoldable pub encode_range : KeyRange → List ℕ
encode_range r = bytes_of 2 r.start ++ bytes_of 2 r.end

unfoldable pub encode_ranges : List KeyRange → List ℕ
encode_ranges [] = []
encode_ranges (r ∷ rs) = encode_range r ++ encode_ranges rs

unfoldable pub encode_segment : AssignedSegment → List ℕ
encode_segment g =
    bytes_of 8 g.segment_id ++ (encode_range g.range ++ (bytes_of 2 (length g.buckets) ++ encode_ranges g.buckets))

unfoldable pub encode_segments : List AssignedSegment → List ℕ
encode_segments [] = []
encode_segments (g ∷ gs) = encode_segment g ++ encode_segments gs

unfoldable pub encode_assignment : ConsumerAssignment → List ℕ
encode_assignment a = bytes_of 8 a.layout_epoch ++ (bytes_of 2 (length a.segments) ++ encode_segments a.segments)

-- ---- how many bytes those are

unfoldable pub size_segment : AssignedSegment → ℕ
size_segment g = record_head + bucket_size * length g.buckets

unfoldable pub size_segments : List AssignedSegment → ℕ
size_segments [] = 0
size_segments (g ∷ gs) = size_segment g + size_segments gs

unfoldable pub size_assignment : ConsumerAssignment → ℕ
size_assignment a = assignment_head + size_segments a.segments

-- ---- from bytes to a value, whatever the bytes are

-- the number of the first w bytes
unfoldable pub num : ℕ → List ℕ → ℕ
num w l = be (take w l)

unfoldable pub decode_range : List ℕ → KeyRange
decode_range l = key_range (num 2 l) (num 2 (drop range_end l))

unfoldable pub decode_ranges : ℕ → List ℕ → List KeyRange
decode_ranges zero l = []
decode_ranges (suc n) l = decode_range l ∷ decode_ranges n (drop bucket_size l)

unfoldable pub decode_segment : List ℕ → AssignedSegment
decode_segment l =
    record { segment_id = num 8 l; range = decode_range (drop record_range l); buckets = decode_ranges (num 2 (drop record_count l)) (drop record_head l) }

unfoldable pub decode_segments : ℕ → List ℕ → List AssignedSegment
decode_segments zero l = []
decode_segments (suc n) l = decode_segment l ∷ decode_segments n (drop (size_segment (decode_segment l)) l)

unfoldable pub decode_assignment : List ℕ → ConsumerAssignment
decode_assignment l = record { layout_epoch = num 8 l; segments = decode_segments (num 2 (drop assignment_count l)) (drop assignment_head l) }

-- ---- which values are packed assignments

-- the range is not reversed
abbrev pub is_in_order : KeyRange → Bool
is_in_order r = leb r.start r.end

unfoldable pub all_in_order : List KeyRange → Bool
all_in_order [] = true
all_in_order (r ∷ rs) = is_in_order r && all_in_order rs

-- no range is "reversed", no two are "sharing a value"
unfoldable pub ok_buckets : List KeyRange → Bool
ok_buckets rs = all_in_order rs && not (any_overlap rs)

unfoldable pub ok_segment : AssignedSegment → Bool
ok_segment g = is_in_order g.range && ok_buckets g.buckets

-- the segments are valid, and "ids rise strictly", from low on
unfoldable pub ok_from : ℕ → List AssignedSegment → Bool
ok_from low [] = true
ok_from low (g ∷ gs) = ok_segment g && (leb low g.segment_id && ok_from (suc g.segment_id) gs)

-- "At most 2,048 bytes."
unfoldable pub ok_assignment : ConsumerAssignment → Bool
ok_assignment a = leb (size_assignment a) slot_size && ok_from 0 a.segments

-- ---- bytes that are, or start with, a packed assignment

-- in a slot: it does not end early, and what follows is not looked at
unfoldable pub starts_assignment : List ℕ → Bool
starts_assignment l = leb (size_assignment (decode_assignment l)) (length l) && ok_assignment (decode_assignment l)

-- lent alone: nothing is left over
unfoldable pub is_assignment : List ℕ → Bool
is_assignment l = starts_assignment l && eqb (size_assignment (decode_assignment l)) (length l)
