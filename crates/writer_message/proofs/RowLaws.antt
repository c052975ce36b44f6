-- The written messages as rows of fields.
--
-- In order: fields of one number, each with a part (`part_fields`), read back as a row (`parts-read`); a range (`range-row`), a segment
-- (`segment-row`), an assignment (`assignment-row`), and a number in field 1 with a part behind it (`carrier-row`).
-- A message has fewer than 2 ^ 64 bytes, and so has each of its parts.
-- Assumes nothing.
use Prim.Native.Nat.{ℕ, ◌+◌, ◌^◌, ◌≤◌, ◌<◌}
use native.Mathlib.Omega.{arith}
use mathlib.Core.Path.{◌≡◌, refl, sym, ap, ◌∙◌, subst}
use mathlib.Core.List.{List, [], ◌∷◌, ◌++◌, map, append-nil}
use lib.ListN.{length, length-append}
use Rattle.topic_types.specs.declared.KeyRange.{KeyRange}
use Rattle.wire.specs.Fields.{Field, fields_of}
use Rattle.wire.proofs.FieldsLaws.{fields-nil}
use Rattle.wire_writer.specs.Encode.{number_field, part_head, part_field}
use Rattle.wire_writer.proofs.EncodeLaws.{number-reads, part-reads}
use Rattle.packed.specs.Assignment.{AssignedSegment, ConsumerAssignment}
use Rattle.packed.proofs.RoundLaws.{FitRange, FitSegment}
use Rattle.writer_message.specs.Message.{range_message, bucket_fields, segment_topic_of, segment_message, segment_fields, assignment_message}
pub use Rattle.writer_message.specs.WireRows.{numbered, parted, part_row}

-- ---- fields that each hold a part

-- each part in field f, as bytes
abbrev pub part_fields : ℕ → List (List ℕ) → List ℕ
part_fields f [] = []
part_fields f (p ∷ ps) = part_field f p ++ part_fields f ps

part-within : (f : ℕ) (p : List ℕ) → length p ≤ length (part_field f p)
unfolding part_field
part-within f p = omega (arith, length-append (part_head f (length p)) p)

nothing : fields_of [] ≡ []
nothing = fields-nil [] (omega arith)

module _ (f : ℕ) (h : 1 ≤ f) (g : f < 2 ^ 29) where
  number-last : (v : ℕ) → v < 2 ^ 64 → fields_of (number_field f v) ≡ numbered f v ∷ []
  number-last v b =
      ap fields_of (sym (append-nil (number_field f v)))
      ∙ number-reads f h g v [] b
      ∙ ap (λ (fs : List Field). numbered f v ∷ fs) nothing

  part-last : (p : List ℕ) → length p < 2 ^ 64 → fields_of (part_field f p) ≡ parted f p ∷ []
  part-last p b =
      ap fields_of (sym (append-nil (part_field f p)))
      ∙ part-reads f h g p [] b
      ∙ ap (λ (fs : List Field). parted f p ∷ fs) nothing

  parts-read : (ps : List (List ℕ)) → length (part_fields f ps) < 2 ^ 64 → fields_of (part_fields f ps) ≡ part_row f ps
  parts-read [] s = nothing
  parts-read (p ∷ ps) s =
      let n = length-append (part_field f p) (part_fields f ps) in
      part-reads f h g p (part_fields f ps) (omega (arith, part-within f p))
      ∙ ap (λ (fs : List Field). parted f p ∷ fs) (parts-read ps (omega arith))

-- a number in field 1, and a part behind it
pub carrier-row : (f : ℕ) → 1 ≤ f → f < 2 ^ 29 → (v : ℕ) (p : List ℕ) → v < 2 ^ 64 → length p < 2 ^ 64
    → fields_of (number_field 1 v ++ part_field f p) ≡ numbered 1 v ∷ parted f p ∷ []
carrier-row f h g v p b s =
    number-reads 1 (omega arith) (omega arith) v (part_field f p) b
    ∙ ap (λ (fs : List Field). numbered 1 v ∷ fs) (part-last f h g p s)

-- ---- the messages

pub range-row : (r : KeyRange) → FitRange r → fields_of (range_message r) ≡ numbered 1 r.start ∷ numbered 2 r.end ∷ []
unfolding range_message
range-row r f =
    number-reads 1 (omega arith) (omega arith) r.start (number_field 2 r.end) (omega (arith, f.start))
    ∙ ap (λ (fs : List Field). numbered 1 r.start ∷ fs) (number-last 2 (omega arith) (omega arith) r.end (omega (arith, f.end)))

buckets-parts : (rs : List KeyRange) → bucket_fields rs ≡ part_fields 5 (map range_message rs)
unfolding bucket_fields
buckets-parts [] = refl
buckets-parts (r ∷ rs) = ap (λ (l : List ℕ). part_field 5 (range_message r) ++ l) (buckets-parts rs)

segments-parts : (path : List ℕ) (gs : List AssignedSegment) → segment_fields path gs ≡ part_fields 2 (map (segment_message path) gs)
unfolding segment_fields
segments-parts path [] = refl
segments-parts path (g ∷ gs) = ap (λ (l : List ℕ). part_field 2 (segment_message path g) ++ l) (segments-parts path gs)

-- a segment's row, with the parts of its buckets
abbrev pub segment_row_of : List ℕ → AssignedSegment → List (List ℕ) → List Field
segment_row_of path g ps =
    numbered 1 g.segment_id ∷ numbered 2 g.range.start ∷ numbered 3 g.range.end ∷ parted 4 (segment_topic_of path g) ∷ part_row 5 ps

pub segment-row : (path : List ℕ) (g : AssignedSegment) → FitSegment g → length (segment_message path g) < 2 ^ 64
    → fields_of (segment_message path g) ≡ segment_row_of path g (map range_message g.buckets)
unfolding segment_message
segment-row path g f s =
    let bs : List (List ℕ) = map range_message g.buckets in
    let t : List ℕ = segment_topic_of path g in
    let B : List ℕ = part_fields 5 bs in
    let T : List ℕ = part_field 4 t ++ B in
    let E : List ℕ = number_field 3 g.range.end ++ T in
    let S : List ℕ = number_field 2 g.range.start ++ E in
    let e : segment_message path g ≡ number_field 1 g.segment_id ++ S = rw (buckets-parts g.buckets) in
    let n : length (number_field 1 g.segment_id ++ S) < 2 ^ 64 = subst (λ (l : List ℕ). length l < 2 ^ 64) e s in
    let a = length-append (number_field 1 g.segment_id) S in
    let b = length-append (number_field 2 g.range.start) E in
    let c = length-append (number_field 3 g.range.end) T in
    let d = length-append (part_field 4 t) B in
    ap fields_of e
    ∙ number-reads 1 (omega arith) (omega arith) g.segment_id S (omega (arith, f.id))
    ∙ rw (
      number-reads 2 (omega arith) (omega arith) g.range.start E (omega (arith, f.range.start)),
      number-reads 3 (omega arith) (omega arith) g.range.end T (omega (arith, f.range.end)),
      part-reads 4 (omega arith) (omega arith) t B (omega (arith, part-within 4 t)),
      parts-read 5 (omega arith) (omega arith) bs (omega arith),
    )

pub assignment-row : (path : List ℕ) (a : ConsumerAssignment) → a.layout_epoch < 256 ^ 8 → length (assignment_message path a) < 2 ^ 64
    → fields_of (assignment_message path a) ≡ numbered 1 a.layout_epoch ∷ part_row 2 (map (segment_message path) a.segments)
unfolding assignment_message
assignment-row path a f s =
    let S : List ℕ = segment_fields path a.segments in
    let e = segments-parts path a.segments in
    let n = length-append (number_field 1 a.layout_epoch) S in
    number-reads 1 (omega arith) (omega arith) a.layout_epoch S (omega arith)
    ∙ ap (λ (fs : List Field). numbered 1 a.layout_epoch ∷ fs)
    (ap fields_of e ∙ parts-read 2 (omega arith) (omega arith) (map (segment_message path) a.segments) (omega (arith, ap length e)))

-- ---- how long the parts are

-- a segment's message is no longer than the fields that hold it
pub segment-within : (path : List ℕ) (g : AssignedSegment) (gs : List AssignedSegment)
    → length (segment_message path g) + length (segment_fields path gs) ≤ length (segment_fields path (g ∷ gs))
unfolding segment_fields
segment-within path g gs =
    omega (arith, length-append (part_field 2 (segment_message path g)) (segment_fields path gs), part-within 2 (segment_message path g))

pub segments-within : (path : List ℕ) (a : ConsumerAssignment)
    → length (segment_fields path a.segments) ≤ length (assignment_message path a)
unfolding assignment_message
segments-within path a = omega (arith, length-append (number_field 1 a.layout_epoch) (segment_fields path a.segments))
