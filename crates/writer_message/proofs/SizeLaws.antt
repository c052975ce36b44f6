-- A written assignment has fewer than 2 ^ 64 bytes: under a parent of fewer than 2 ^ 56 bytes (`message-short`), and under any where it has
-- no segment (`message-none`).
--
-- The bounds are rough: a key and a number have at most ten bytes each, and every segment takes 14 bytes or more of the 2,038 of a slot.
-- Assumes nothing.
use Prim.Native.Nat.{ℕ, ◌+◌, ◌*◌, ◌^◌, ◌≤◌, ◌<◌}
use native.Mathlib.Omega.{arith}
use mathlib.Core.Path.{◌≡◌}
use mathlib.Core.Bool.{true}
use mathlib.Core.List.{List, [], ◌∷◌}
use lib.ListN.{length, length-append, length-drop}
use lib.Dec.{leb}
use borrow.Author.Tests.{leb-true}
use Rattle.slice.specs.BoolLaws.{both_true}
use Rattle.topic_types.specs.declared.KeyRange.{KeyRange}
use Rattle.name_parents.specs.Parents.{path_of}
use Rattle.name_topic.proofs.NameLaws.{descriptor-short, segment_topic-length}
use Rattle.wire_writer.specs.Encode.{varint_bytes, number_key, part_key, number_field, part_head, part_field}
use Rattle.wire_writer.proofs.EncodeLaws.{length-varint-le}
use Rattle.packed.specs.Assignment.{AssignedSegment, ConsumerAssignment, slot_size, size_segment, size_segments, size_assignment}
use Rattle.packed.specs.Assignment.{ok_from, ok_assignment}
use Rattle.writer_message.specs.Message.{range_message, bucket_fields, segment_topic_of, segment_message, segment_fields, assignment_message}

number-le : (f v : ℕ) → length (number_field f v) ≤ 20
unfolding number_field
number-le f v =
    omega (arith, length-append (number_key f) (varint_bytes v), length-varint-le (8 * f), length-varint-le v)

part-le : (f : ℕ) (p : List ℕ) → length (part_field f p) ≤ 20 + length p
unfolding part_field part_head
part-le f p =
    let K : List ℕ = part_key f in
    let N : List ℕ = varint_bytes (length p) in
    let h = length-append K N in
    omega (arith, length-append (part_head f (length p)) p, length-varint-le (8 * f + 2), length-varint-le (length p))

range-le : (r : KeyRange) → length (range_message r) ≤ 40
unfolding range_message
range-le r =
    omega (arith, length-append (number_field 1 r.start) (number_field 2 r.end), number-le 1 r.start, number-le 2 r.end)

buckets-le : (rs : List KeyRange) → length (bucket_fields rs) ≤ 60 * length rs
unfolding bucket_fields
buckets-le [] = omega arith
buckets-le (r ∷ rs) =
    let p : List ℕ = range_message r in
    omega (arith, length-append (part_field 5 p) (bucket_fields rs), part-le 5 p, range-le r, buckets-le rs)

segment-le : (path : List ℕ) (g : AssignedSegment) → length (segment_message path g) ≤ length path + 121 + 60 * length g.buckets
unfolding segment_message
segment-le path g =
    simp length-append (omega (
      arith,
      number-le 1 g.segment_id,
      number-le 2 g.range.start,
      number-le 3 g.range.end,
      part-le 4 (segment_topic_of path g),
      segment_topic-length g.range (record { 0 = g.segment_id }) path,
      descriptor-short g.range (record { 0 = g.segment_id }),
      buckets-le g.buckets,
    ))

segments-le : (path : List ℕ) (gs : List AssignedSegment) → length path < 2 ^ 56
    → length (segment_fields path gs) ≤ 2 ^ 53 * size_segments gs
unfolding segment_fields size_segments size_segment
segments-le path [] h = omega arith
segments-le path (g ∷ gs) h =
    let p : List ℕ = segment_message path g in
    omega (arith, length-append (part_field 2 p) (segment_fields path gs), part-le 2 p, segment-le path g, segments-le path gs h)

pub message-short : (parent : List ℕ) (a : ConsumerAssignment) → ok_assignment a ≡ true → length parent < 2 ^ 56
    → length (assignment_message (path_of parent) a) < 2 ^ 64
unfolding assignment_message ok_assignment size_assignment
message-short parent a o h =
    let gs : List AssignedSegment = a.segments in
    let path : List ℕ = path_of parent in
    let z : size_assignment a ≤ slot_size = leb-true _ _ (both_true (leb (size_assignment a) slot_size) (ok_from 0 gs) o).0 in
    omega (
      arith,
      length-append (number_field 1 a.layout_epoch) (segment_fields path gs),
      number-le 1 a.layout_epoch,
      segments-le path gs (omega (arith, length-drop 8 parent)),
    )

pub message-none : (path : List ℕ) (a : ConsumerAssignment) → a.segments ≡ [] → length (assignment_message path a) < 2 ^ 64
unfolding assignment_message segment_fields
message-none path a e = rw (e, length-append) (omega (arith, number-le 1 a.layout_epoch))
