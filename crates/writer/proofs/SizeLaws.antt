-- How long what is written is.
--
-- In order: a loop over decimal digits (`Digits`: `digits-start`, `digits-next`, `digits-end`); the length of each part of a message, and a
-- bound of it (`length-..`, `..-short`). A segment's bound is the path's length and some four million bytes, the most that 65,535 buckets
-- have.
-- Assumes nothing.
use Prim.Native.Nat.{ℕ, suc, ◌+◌, ◌-◌, ◌*◌, ◌/◌, ◌%◌, ◌^◌, ◌≤◌, ◌<◌}
use native.Mathlib.Omega.{arith}
use mathlib.Core.Path.{◌≡◌, refl, ap, subst}
use mathlib.Core.List.{List, [], ◌∷◌}
use lib.ListN.{length, length-append}
use Rattle.topic_types.specs.declared.KeyRange.{KeyRange}
use Rattle.topic_types.specs.declared.SegmentId.{SegmentId}
use Rattle.name_topic.specs.Names.{decimal_within, decimal, segment_topic}
use Rattle.name_topic.proofs.NameLaws.{decimal-length, descriptor-length, segment_topic-length, decimal-next, decimal-end, digits-fewer}
use Rattle.wire_writer.specs.Encode.{varint_bytes, number_key, part_key, number_field, part_head, part_field}
use Rattle.wire_writer.proofs.EncodeLaws.{length-varint-le}
use Rattle.packed.specs.Assignment.{AssignedSegment}
use Rattle.writer_message.specs.Message.{range_message, bucket_fields, segment_topic_of, segment_message}

-- ---- decimal digits

-- n - 1 digits of v are counted, and rest has the others
pub record Digits (v n rest : ℕ) : Type 0 where
  pub begun : 1 ≤ n
  pub few : n ≤ 20
  pub fits : rest < 10 ^ (21 - n)
  pub whole : n + length (decimal_within (21 - n) rest) ≡ 1 + length (decimal v)

pub digits-start : (v : ℕ) → v < 2 ^ 64 → Digits v 1 v
unfolding decimal
digits-start v h = record { begun = omega arith; few = omega arith; fits = omega arith; whole = refl }

module _ (v n rest : ℕ) (d : Digits v n rest) where
  digits-left : 21 - n ≡ suc (20 - n)
  digits-left = omega arith

  length-left : length (decimal_within (21 - n) rest) ≡ length (decimal_within (suc (20 - n)) rest)
  length-left = ap (λ (k : ℕ). length (decimal_within k rest)) digits-left

  pub digits-next : 10 ≤ rest → Digits v (n + 1) (rest / 10)
  digits-next h =
      let p = digits-fewer (20 - n) rest h (subst (λ (k : ℕ). rest < 10 ^ k) digits-left d.fits) in
      let e : 20 - n ≡ 21 - (n + 1) = omega arith in
      let last : List ℕ = (0x30 + rest % 10) ∷ [] in
      record {
        begun = omega arith;
        few = omega (arith, p.0);
        fits = subst (λ (k : ℕ). rest / 10 < 10 ^ k) e p.1;
        whole =
            omega (
              arith,
              d.whole,
              length-left,
              ap length (decimal-next (20 - n) rest [] last h refl),
              length-append (decimal_within (suc (20 - n)) rest) [],
              length-append (decimal_within (20 - n) (rest / 10)) last,
              ap (λ (k : ℕ). length (decimal_within k (rest / 10))) e,
            );
      }

  pub digits-end : rest < 10 → n ≡ length (decimal v)
  digits-end h = omega (arith, d.whole, length-left, ap length (decimal-end (20 - n) rest h))

-- ---- fields

pub number_short : (f v : ℕ) → length (number_field f v) ≤ 20
unfolding number_field
number_short f v = omega (arith, length-append (number_key f) (varint_bytes v), length-varint-le (8 * f), length-varint-le v)

pub head-short : (f n : ℕ) → length (part_head f n) ≤ 20
unfolding part_head
head-short f n = omega (arith, length-append (part_key f) (varint_bytes n), length-varint-le (8 * f + 2), length-varint-le n)

pub length_part : (f : ℕ) (p : List ℕ) → length (part_field f p) ≡ length (part_head f (length p)) + length p
unfolding part_field
length_part f p = length-append (part_head f (length p)) p

-- ---- a range, and buckets

pub length-range : (r : KeyRange) → length (range_message r) ≡ length (number_field 1 r.start) + length (number_field 2 r.end)
unfolding range_message
length-range r = length-append (number_field 1 r.start) (number_field 2 r.end)

pub range-short : (r : KeyRange) → length (range_message r) ≤ 40
range-short r = omega (arith, length-range r, number_short 1 r.start, number_short 2 r.end)

pub buckets-short : (rs : List KeyRange) → length (bucket_fields rs) ≤ 60 * length rs
unfolding bucket_fields
buckets-short [] = omega arith
buckets-short (r ∷ rs) =
    let M : List ℕ = range_message r in
    omega (
      arith,
      buckets-short rs,
      length-append (part_field 5 M) (bucket_fields rs),
      length_part 5 M,
      head-short 5 (length M),
      range-short r,
    )

-- ---- a name, and a segment

module _ (path : List ℕ) where
  pub length-topic : (range : KeyRange) (id : SegmentId) → length (segment_topic path range id) ≡ 21 + length path + length (decimal id.0)
  length-topic range id = omega (arith, segment_topic-length range id path, descriptor-length range id)

  pub topic-short : (range : KeyRange) (id : SegmentId) → length (segment_topic path range id) ≤ length path + 41
  topic-short range id = omega (arith, length-topic range id, decimal-length id.0)

  module _ (g : AssignedSegment) where
    pub length-segment : length (segment_message path g)
        ≡ length (number_field 1 g.segment_id) + length (number_field 2 g.range.start) + length (number_field 3 g.range.end)
        + length (part_head 4 (length (segment_topic_of path g))) + length (segment_topic_of path g) + length (bucket_fields g.buckets)
    unfolding segment_message
    length-segment = simp (length-append, length_part) (omega arith)

    pub segment-short : length g.buckets < 65536 → length (segment_message path g) ≤ length path + 4000000
    segment-short h =
        omega (
          arith,
          length-segment,
          number_short 1 g.segment_id,
          number_short 2 g.range.start,
          number_short 3 g.range.end,
          head-short 4 (length (segment_topic_of path g)),
          topic-short g.range (record { 0 = g.segment_id }),
          buckets-short g.buckets,
        )
