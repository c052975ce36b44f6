-- Internal: cited by the contracts of helpers alone; whoever reads the claims may skip it.
--
-- What the functions of src/ answer.
-- Assumes nothing.
use Rattle.std.specs.Prelude.{ℕ, ◌+◌, ◌-◌, ◌*◌, ◌≤◌, ◌<◌, ◌≡◌, true, false, ◌⊎◌, List, [], ◌∷◌, ◌++◌, map, length, take, drop, Option, Some, None, Result, Ok, Err}
use Rattle.refusal.specs.declared.Refusal.{Refusal}
use Rattle.refusal.specs.declared.Refusal.TheVariants.{DuplicateSegment}
use Rattle.slice_int.specs.Be.{bytes_of}
use Rattle.slice_int.specs.Put.{put}
use Rattle.wire.specs.Fields.{fields_of}
use Rattle.wire_values.specs.declared.Cursor.{Cursor}
use Rattle.wire_values.specs.Values.{parts_of, merged_fields}
use Rattle.wire_values.specs.Places.{Inside, inner_from}
use Rattle.wire_readers.specs.Messages.{WireSegment, read_segment}
use Rattle.keyed.specs.Keyed.{holds, insert}
use Rattle.packed.specs.Assignment.{assignment_head, record_head, bucket_size, id_of, slot_size}
use Rattle.packed.specs.Assignment.{size_segment, size_segments, encode_ranges, encode_segments, decode_segments, encode_assignment, size_assignment}
use Rattle.intake_content.specs.Content.{buckets_of, segment_fault, assigned_segment, Content, refused, taken}
use Rattle.intake_scan.specs.declared.SegmentScan.{SegmentScan}
use Rattle.intake_segment.specs.Verdicts.{ScanOf}

-- ---- segments by themselves

-- the segments of the message's assignments in field n, and those that a cursor has before it
abbrev pub wires : ℕ → List ℕ → List WireSegment
wires n m = map read_segment (parts_of 2 (merged_fields n (fields_of m)))

abbrev pub wires_from : ℕ → List ℕ → Cursor → List WireSegment
wires_from n m c = map read_segment (inner_from n 2 m c)

abbrev pub after_test : Option Refusal → ℕ → Result ℕ (ℕ × Refusal) → Result ℕ (ℕ × Refusal)
after_test (Some x) i t = Err (i, x)
after_test None i t = t

-- the first segment that is refused by itself, counted from i, and why; or how many there are
unfoldable pub test_from : List ℕ → ℕ → List WireSegment → Result ℕ (ℕ × Refusal)
test_from parent i [] = Ok i
test_from parent i (w ∷ ws) = after_test (segment_fault parent w) i (test_from parent (i + 1) ws)

-- the i segments behind the cursor c have passed
pub record Passed (n : ℕ) (m parent : List ℕ) (c : Cursor) (i : ℕ) : Type 0 where
  pub inside : Inside m c
  pub few : i ≤ c.at
  pub within : c.at ≤ length m
  pub whole : test_from parent 0 (wires n m) ≡ test_from parent i (wires_from n m c)

-- an id that comes again is refused before what lies behind it
abbrev pub repeat_or : Option ℕ → Refusal → Refusal
repeat_or (Some id) x = DuplicateSegment (record { 0 = id })
repeat_or None x = x

-- the refusal, or else another one
abbrev pub refusal_else : Option Refusal → Refusal → Refusal
refusal_else (Some x) y = x
refusal_else None y = y

-- ---- one more segment

-- the bytes of a segment's record before its buckets
abbrev pub head_bytes : SegmentScan → List ℕ
head_bytes scan =
    bytes_of 8 scan.head.segment_id ++ (bytes_of 2 scan.head.hash_start ++ (bytes_of 2 scan.head.hash_end ++ bytes_of 2 scan.run.count))

-- the segment p was walked over and is valid, its record has room, and its buckets stand where they belong if the record goes behind the used bytes
pub record PutReady (b : List ℕ) (used at size : ℕ) (p : List ℕ) (scan : SegmentScan) : Type 0 where
  pub order : at ≤ used
  pub room : used + size ≤ length b
  pub scanned : ScanOf p scan
  pub valid : scan.run.valid ≡ true
  pub small : (scan.head.hash_start < 65536) × (scan.head.hash_end < 65536) × (scan.run.count < 65536)
  pub size_is : size ≡ size_segment (assigned_segment (read_segment p))
  pub buckets : take (bucket_size * length (read_segment p).bucket_ranges) (drop (used + record_head) b) ≡ encode_ranges (buckets_of (read_segment p))

-- bytes put in at a place, those from there to the used ones' end moved up
abbrev pub inserted_at : (b : List ℕ) (used at : ℕ) (bytes : List ℕ) → List ℕ
inserted_at b used at bytes = put b at (bytes ++ take (used - at) (drop at b))

-- where the buffer b holds m records from the place 10 on: the segment is refused, by itself or for its id; or its record has no room; or it is in its place
abbrev pub AddedIs : (b : List ℕ) (m : ℕ) (parent : List ℕ) → WireSegment → (b' : List ℕ) → Result (Option (ℕ × ℕ)) Refusal → Type 0
AddedIs b m parent w b' (Err x) =
    (segment_fault parent w ≡ Some x)
    ⊎ ((segment_fault parent w ≡ None) × (holds id_of w.segment_id (decode_segments m (drop assignment_head b)) ≡ true) × (x ≡ DuplicateSegment (record { 0 = w.segment_id })))
AddedIs b m parent w b' (Ok None) =
    (segment_fault parent w ≡ None) × (slot_size < assignment_head + size_segments (decode_segments m (drop assignment_head b)) + size_segment (assigned_segment w))
AddedIs b m parent w b' (Ok (Some (id, size))) =
    (segment_fault parent w ≡ None) × (holds id_of w.segment_id (decode_segments m (drop assignment_head b)) ≡ false)
    × (id ≡ w.segment_id) × (size ≡ size_segment (assigned_segment w))
    × (b' ≡ put b assignment_head (encode_segments (insert id_of (assigned_segment w) (decode_segments m (drop assignment_head b)))))

-- ---- the answer

-- the packed assignment at the front of the buffer, and its size; or the refusal
abbrev pub IntakeIs : (b : List ℕ) → Result ℕ Refusal → (b' : List ℕ) → Content → Type 0
IntakeIs b r b' (refused x) = r ≡ Err x
IntakeIs b r b' (taken a) = (r ≡ Ok (size_assignment a)) × (b' ≡ put b 0 (encode_assignment a))
