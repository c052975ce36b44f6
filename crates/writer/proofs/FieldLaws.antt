-- The fields of what stands at a place of a packed assignment, by the first of them.
--
-- In order: the buckets in pieces (`buckets-at`, `buckets-none`), and the loop that counts their bytes (`Sized`: `sized-start`,
-- `sized-next`, `sized-end`); the record in pieces (`message-at`), what of it lies inside (`head-inside`, `buckets-inside`), and its length
-- (`message-length`, `message-short`); the records in pieces (`fields_at`, `fields-none`), and the loop that counts their bytes up to a limit
-- (`Counted`: `counted_start`, `counted-beyond`, `counted_next`, `counted-end`).
-- Assumes nothing.
use Rattle.std.specs.Prelude.{Some, None}
use Prim.Native.Nat.{ℕ, ◌+◌, ◌-◌, ◌*◌, ◌≤◌, ◌<◌}
use native.Mathlib.Omega.{arith}
use mathlib.Core.Path.{◌≡◌, refl, ap, ◌∙◌}
use mathlib.Core.List.{List, [], ◌∷◌, ◌++◌, append_assoc, append-nil}
use lib.ListN.{length, drop, length-append}
use borrow.Author.Tests.{le-leb, lt-leb}
use Rattle.topic_types.specs.declared.KeyRange.{KeyRange}
use Rattle.slice.proofs.PartLaws.{Bytes, Bytes-drop}
use Rattle.wire_writer.specs.Encode.{number_field, part_head, part_field}
use Rattle.packed.specs.Assignment.{AssignedSegment, decode_range, decode_ranges, decode_segment, decode_segments, size_segment}
use Rattle.packed.proofs.AssignmentLaws.{ranges-at, ranges-none, length-ranges_of, size-least, segment-at, segments-at}
use Rattle.packed.proofs.AssignmentLaws.{Seen, seen_size, Rest, rest-next}
use Rattle.packed.proofs.RoundLaws.{fit-segment}
use Rattle.name_topic.specs.Names.{segment_topic}
use Rattle.writer_message.specs.Message.{range_message, bucket_fields, segment_message, segment_fields}
use Rattle.writer.specs.Write.{room_of}
use Rattle.writer.proofs.SizeLaws.{length_part, buckets-short, length-segment, segment-short}
use Rattle.writer.proofs.WritingLaws.{flat}

-- ---- buckets

-- the pieces of the bucket r, which `left` others from the place p on follow
abbrev pub bucket_pieces : KeyRange → List ℕ → ℕ → ℕ → List (List ℕ)
bucket_pieces r s p left =
    part_head 5 (length (range_message r)) ∷ number_field 1 r.start ∷ number_field 2 r.end ∷ bucket_fields (decode_ranges left (drop p s)) ∷ []

pub buckets-at : (s : List ℕ) (p n : ℕ) (r : KeyRange) → 0 < n → r ≡ decode_range (drop p s)
    → bucket_fields (decode_ranges n (drop p s)) ≡ flat (bucket_pieces r s (p + 4) (n - 1))
unfolding bucket_fields part_field range_message
buckets-at s p n r h e = ap bucket_fields (ranges-at s p n r h e) ∙ simp (append_assoc, append-nil)

pub buckets-none : (s : List ℕ) (p n : ℕ) → n ≤ 0 → bucket_fields (decode_ranges n (drop p s)) ≡ []
unfolding bucket_fields
buckets-none s p n h = ap bucket_fields (ranges-none n (drop p s) h)

-- `left` buckets are left of n at the place p, and their bytes and the size are all bytes
pub record Sized (s : List ℕ) (at n size p left : ℕ) : Type 0 where
  pub inside : p + 4 * left ≤ length s
  pub whole : size + length (bucket_fields (decode_ranges left (drop p s))) ≡ length (bucket_fields (decode_ranges n (drop at s)))
  pub short : length (bucket_fields (decode_ranges n (drop at s))) ≤ 60 * n

pub sized-start : (s : List ℕ) (at n : ℕ) → at + 4 * n ≤ length s → Sized s at n 0 at n
sized-start s at n h =
    let e = length-ranges_of n (drop at s) in
    record { inside = h; whole = omega arith; short = omega (arith, buckets-short (decode_ranges n (drop at s))) }

module _ (s : List ℕ) (at n size p left : ℕ) (w : Sized s at n size p left) where
  module _ (r : KeyRange) (len head : ℕ) (h : 0 < left) (e : r ≡ decode_range (drop p s)) (k : len ≡ length (range_message r))
      (g : head ≡ length (part_head 5 len)) where
    sized-turn : length (bucket_fields (decode_ranges left (drop p s))) ≡ head + len + length (bucket_fields (decode_ranges (left - 1) (drop (p + 4) s)))
    unfolding bucket_fields
    sized-turn =
        let rest : List ℕ = bucket_fields (decode_ranges (left - 1) (drop (p + 4) s)) in
        omega (
          arith,
          ap (λ (rs : List KeyRange). length (bucket_fields rs)) (ranges-at s p left r h e),
          length-append (part_field 5 (range_message r)) rest,
          length_part 5 (range_message r),
          ap (λ (m : ℕ). length (part_head 5 m)) k,
        )

    pub sized-next : Sized s at n (size + head + len) (p + 4) (left - 1)
    sized-next = record { inside = omega (arith, w.inside); whole = omega (arith, w.whole, sized-turn); short = w.short }

  pub sized-end : left ≤ 0 → size ≡ length (bucket_fields (decode_ranges n (drop at s)))
  sized-end h = omega (arith, w.whole, ap length (buckets-none s p left h))

-- ---- a record

-- it has a head
pub head-inside : (s : List ℕ) (p : ℕ) → p + size_segment (decode_segment (drop p s)) ≤ length s → p + 14 ≤ length s
head-inside s p h = omega (arith, size-least (decode_segment (drop p s)))

-- the pieces of the segment i with the range r and n buckets at the place p
abbrev pub segment_pieces : List ℕ → ℕ → KeyRange → ℕ → List ℕ → ℕ → List (List ℕ)
segment_pieces path i r n s p =
    number_field 1 i
    ∷ number_field 2 r.start
    ∷ number_field 3 r.end
    ∷ part_head 4 (length (segment_topic path r (record { 0 = i })))
    ∷ segment_topic path r (record { 0 = i })
    ∷ bucket_fields (decode_ranges n (drop p s))
    ∷ []

module _ (s : List ℕ) (p i : ℕ) (r : KeyRange) (n : ℕ) (x : Seen s p i r n) where
  pub message-at : (path : List ℕ) → segment_message path (decode_segment (drop p s)) ≡ flat (segment_pieces path i r n s (p + 14))
  unfolding segment_message part_field
  message-at path =
      ap (segment_message path) (segment-at s p i r n x.id-is x.range-is x.count-is) ∙ simp (append_assoc, append-nil)

  pub message-length : (path : List ℕ) → length (segment_message path (decode_segment (drop p s)))
      ≡ length (number_field 1 i) + length (number_field 2 r.start) + length (number_field 3 r.end)
      + length (part_head 4 (length (segment_topic path r (record { 0 = i })))) + length (segment_topic path r (record { 0 = i }))
      + length (bucket_fields (decode_ranges n (drop (p + 14) s)))
  message-length path =
      ap (λ (g : AssignedSegment). length (segment_message path g)) (segment-at s p i r n x.id-is x.range-is x.count-is)
      ∙ length-segment path (record { segment_id = i; range = r; buckets = decode_ranges n (drop (p + 14) s) })

  -- its buckets lie inside
  pub buckets-inside : p + size_segment (decode_segment (drop p s)) ≤ length s → p + 14 + 4 * n ≤ length s
  buckets-inside h = omega (arith, seen_size s p i r n x)

-- a record's message is not much longer than the path
pub message-short : (s : List ℕ) (p : ℕ) (path : List ℕ) → Bytes s
    → length (segment_message path (decode_segment (drop p s))) ≤ length path + 4000000
message-short s p path b = segment-short path (decode_segment (drop p s)) (fit-segment (drop p s) (Bytes-drop p s b)).count

-- ---- records

-- the pieces of the record at the place p, which `left` others from the place q on follow
abbrev pub field_pieces : List ℕ → List ℕ → ℕ → ℕ → ℕ → List (List ℕ)
field_pieces path s p q left =
    part_head 2 (length (segment_message path (decode_segment (drop p s))))
    ∷ segment_message path (decode_segment (drop p s))
    ∷ segment_fields path (decode_segments left (drop q s))
    ∷ []

module _ (path s : List ℕ) (p m : ℕ) where
  pub fields_at : (z : ℕ) → 0 < m → z ≡ size_segment (decode_segment (drop p s))
      → segment_fields path (decode_segments m (drop p s)) ≡ flat (field_pieces path s p (p + z) (m - 1))
  unfolding segment_fields part_field
  fields_at z h e = ap (segment_fields path) (segments-at s p m z h e) ∙ simp (append_assoc, append-nil)

  pub fields-none : m ≤ 0 → segment_fields path (decode_segments m (drop p s)) ≡ []
  unfolding segment_fields decode_segments
  fields-none h = let e : m ≡ 0 = omega arith in ap (λ (k : ℕ). segment_fields path (decode_segments k (drop p s))) e

-- `left` records are left of m at the place p, and their bytes and the size, which is within the limit, are all bytes
pub record Counted (path s : List ℕ) (at m limit size p left : ℕ) : Type 0 where
  pub rest : Rest s p left
  pub within : size ≤ limit
  pub whole : size + length (segment_fields path (decode_segments left (drop p s))) ≡ length (segment_fields path (decode_segments m (drop at s)))

pub counted_start : (path s : List ℕ) (at m limit : ℕ) → Rest s at m → Counted path s at m limit 0 at m
counted_start path s at m limit r = record { rest = r; within = omega arith; whole = omega arith }

module _ (path s : List ℕ) (at m limit size p left : ℕ) (w : Counted path s at m limit size p left) where
  module _ (len head : ℕ) (h : 0 < left) (k : len ≡ length (segment_message path (decode_segment (drop p s))))
      (g : head ≡ length (part_head 2 len)) where
    counted-turn : (z : ℕ) → z ≡ size_segment (decode_segment (drop p s))
        → length (segment_fields path (decode_segments left (drop p s)))
        ≡ head + len + length (segment_fields path (decode_segments (left - 1) (drop (p + z) s)))
    counted-turn z e =
        let M : List ℕ = segment_message path (decode_segment (drop p s)) in
        let others : List ℕ = segment_fields path (decode_segments (left - 1) (drop (p + z) s)) in
        omega (
          arith,
          ap length (fields_at path s p left z h e),
          length-append (part_head 2 (length M)) (M ++ (others ++ [])),
          length-append M (others ++ []),
          length-append others [],
          ap (λ (n : ℕ). length (part_head 2 n)) k,
        )

    pub counted-beyond : limit - size < head + len → None ≡ room_of limit path (decode_segments m (drop at s))
    unfolding room_of
    counted-beyond b =
        let total : ℕ = length (segment_fields path (decode_segments m (drop at s))) in
        rw (lt-leb total limit (omega (arith, w.within, w.whole, counted-turn _ refl)))

    pub counted_next : (z : ℕ) → z ≡ size_segment (decode_segment (drop p s)) → head + len ≤ limit - size
        → Counted path s at m limit (size + (head + len)) (p + z) (left - 1)
    counted_next z e b =
        record {
          rest = rest-next s p left z h e w.rest;
          within = omega (arith, w.within);
          whole = omega (arith, w.whole, counted-turn z e);
        }

  pub counted-end : left ≤ 0 → Some size ≡ room_of limit path (decode_segments m (drop at s))
  unfolding room_of
  counted-end h =
      let total : ℕ = length (segment_fields path (decode_segments m (drop at s))) in
      let e : total ≡ size = omega (arith, w.whole, ap length (fields-none path s p left h)) in
      rw (le-leb total limit (omega (arith, w.within)), e)
