-- Packed assignments and bytes correspond.
--
-- In order: how long an encoding is (`length-encode_segment` to `length-encode_assignment`); what is encoded is read back, whatever follows
-- it (`read-segment` to `read-assignment`); what is read encodes to the bytes that were read (`write-segment` to `write-assignment`) and
-- fits (`fit-segment` to `fit-assignment`); both ways at once (`starts-encode`, `encode-whole`); values of equal bytes are equal
-- (`segment-inj`, `segment-same`, `assignment-inj`).
-- Assumes nothing.
use Prim.Native.Nat.{ℕ, zero, suc, ◌+◌, ◌*◌, ◌^◌, ◌≤◌, ◌<◌}
use native.Mathlib.Omega.{arith}
use mathlib.Core.Path.{◌≡◌, refl, sym, ap, ◌∙◌}
use mathlib.Core.Bool.{true}
use mathlib.Core.List.{List, [], ◌∷◌, ◌++◌, append_assoc}
use lib.ListN.{length, take, drop, length-append, length-take, length-drop}
use lib.Seq.{drop-drop, take-add, take_all, drop_at}
use borrow.Author.Tests.{le-leb, eqb-true}
use Rattle.slice.specs.BoolLaws.{both_true}
use Rattle.topic_types.specs.declared.KeyRange.{KeyRange}
use Rattle.topic_types.specs.KeyRanges.{key_range}
use Rattle.slice.proofs.PartLaws.{Bytes, Bytes-take, Bytes-drop}
use Rattle.slice_int.specs.Be.{be, bytes_of}
use Rattle.slice_int.proofs.BeLaws.{length-bytes_of, be-below, be-front, drop-front, bytes_of-front}
use Rattle.packed.specs.Assignment.{AssignedSegment, ConsumerAssignment, num, decode_range, decode_ranges, decode_segment, decode_segments, decode_assignment}
use Rattle.packed.specs.Assignment.{encode_range, encode_ranges, encode_segment, encode_segments, encode_assignment}
use Rattle.packed.specs.Assignment.{size_segment, size_segments, size_assignment, ok_assignment, starts_assignment, is_assignment}
use Rattle.packed.proofs.AssignmentLaws.{length-ranges_of, length-segments_of}
pub use Rattle.packed.specs.Fit.{FitRange, FitRanges, FitSegment, FitSegments, FitAssignment}

-- a number that is read is below the bound of its width
below : (w : ℕ) (l : List ℕ) → Bytes l → be (take w l) < 256 ^ w
below w l b = be-below w (take w l) (rw length-take (omega arith)) (Bytes-take w l b)

-- ---- lengths

length-encode_range : (r : KeyRange) → length (encode_range r) ≡ 4
unfolding encode_range
length-encode_range r = length-append (bytes_of 2 r.start) (bytes_of 2 r.end) ∙ simp length-bytes_of

length-encode_ranges : (rs : List KeyRange) → length (encode_ranges rs) ≡ 4 * length rs
unfolding encode_ranges
length-encode_ranges [] = refl
length-encode_ranges (r ∷ rs) =
    length-append (encode_range r) (encode_ranges rs) ∙ omega (arith, length-encode_range r, length-encode_ranges rs)

pub length-encode_segment : (g : AssignedSegment) → length (encode_segment g) ≡ size_segment g
unfolding encode_segment size_segment
length-encode_segment g = simp (length-append, length-bytes_of, length-encode_range, length-encode_ranges) (omega arith)

pub length-encode_segments : (gs : List AssignedSegment) → length (encode_segments gs) ≡ size_segments gs
unfolding encode_segments size_segments
length-encode_segments [] = refl
length-encode_segments (g ∷ gs) =
    length-append (encode_segment g) (encode_segments gs) ∙ omega (arith, length-encode_segment g, length-encode_segments gs)

pub length-encode_assignment : (a : ConsumerAssignment) → length (encode_assignment a) ≡ size_assignment a
unfolding encode_assignment size_assignment
length-encode_assignment a = simp (length-append, length-bytes_of, length-encode_segments) (omega arith)

-- ---- encoded, then read

read-range : (r : KeyRange) (l : List ℕ) → FitRange r → decode_range (encode_range r ++ l) ≡ r
unfolding decode_range num encode_range
read-range r l f =
    let a : ℕ = r.start in
    let b : ℕ = r.end in
    let w : List ℕ = bytes_of 2 a ++ (bytes_of 2 b ++ l) in
    let e : key_range (be (take 2 w)) (be (take 2 (drop 2 w))) ≡ key_range a b =
    cc (be-front 2 a (bytes_of 2 b ++ l) f.start, drop-front 2 a (bytes_of 2 b ++ l), be-front 2 b l f.end) in
    ap decode_range (append_assoc (bytes_of 2 a) (bytes_of 2 b) l) ∙ e

pub read-ranges : (rs : List KeyRange) (l : List ℕ) → FitRanges rs → decode_ranges (length rs) (encode_ranges rs ++ l) ≡ rs
unfolding decode_ranges encode_ranges
read-ranges [] l f = refl
read-ranges (r ∷ rs) l f =
    let e : List ℕ = encode_range r in
    let t : List ℕ = encode_ranges rs ++ l in
    ap (λ (m : List ℕ). decode_range m ∷ decode_ranges (length rs) (drop 4 m)) (append_assoc e (encode_ranges rs) l)
    ∙ ap (λ (q : KeyRange). q ∷ decode_ranges (length rs) (drop 4 (e ++ t))) (read-range r t f.0)
    ∙ ap (λ (m : List ℕ). r ∷ decode_ranges (length rs) m) (drop_at e t 4 (length-encode_range r))
    ∙ ap (λ (q : List KeyRange). r ∷ q) (read-ranges rs l f.1)

-- the places of a record's parts
module _ (i : ℕ) (r : KeyRange) (n : ℕ) (l : List ℕ) where
  abbrev parts : List ℕ
  parts = bytes_of 8 i ++ (encode_range r ++ (bytes_of 2 n ++ l))

  at_8 : drop 8 parts ≡ encode_range r ++ (bytes_of 2 n ++ l)
  at_8 = drop-front 8 i (encode_range r ++ (bytes_of 2 n ++ l))

  at-12 : drop 12 parts ≡ bytes_of 2 n ++ l
  at-12 = sym (drop-drop 4 8 parts) ∙ ap (drop 4) at_8 ∙ drop_at (encode_range r) (bytes_of 2 n ++ l) 4 (length-encode_range r)

  at-14 : drop 14 parts ≡ l
  at-14 = sym (drop-drop 2 12 parts) ∙ ap (drop 2) at-12 ∙ drop-front 2 n l

  read-parts : i < 256 ^ 8 → FitRange r → n < 256 ^ 2 → decode_segment parts ≡ record { segment_id = i; range = r; buckets = decode_ranges n l }
  unfolding decode_segment num
  read-parts hi hr hn =
      cc (at_8, at-12, at-14, be-front 8 i (encode_range r ++ (bytes_of 2 n ++ l)) hi, read-range r (bytes_of 2 n ++ l) hr, be-front 2 n l hn)

encode-parts : (g : AssignedSegment) (l : List ℕ)
    → encode_segment g ++ l ≡ parts g.segment_id g.range (length g.buckets) (encode_ranges g.buckets ++ l)
unfolding encode_segment
encode-parts g l = simp append_assoc

pub read-segment : (g : AssignedSegment) (l : List ℕ) → FitSegment g → decode_segment (encode_segment g ++ l) ≡ g
read-segment g l f =
    ap decode_segment (encode-parts g l)
    ∙ read-parts g.segment_id g.range (length g.buckets) (encode_ranges g.buckets ++ l) f.id f.range f.count
    ∙ ap (λ (q : List KeyRange). record { segment_id = g.segment_id; range = g.range; buckets = q }) (read-ranges g.buckets l f.buckets)

pub read-segments : (gs : List AssignedSegment) (l : List ℕ) → FitSegments gs → decode_segments (length gs) (encode_segments gs ++ l) ≡ gs
unfolding decode_segments encode_segments
read-segments [] l f = refl
read-segments (g ∷ gs) l f =
    let e : List ℕ = encode_segment g in
    let t : List ℕ = encode_segments gs ++ l in
    ap (λ (m : List ℕ). decode_segment m ∷ decode_segments (length gs) (drop (size_segment (decode_segment m)) m)) (append_assoc e (encode_segments gs) l)
    ∙ ap (λ (q : AssignedSegment). q ∷ decode_segments (length gs) (drop (size_segment q) (e ++ t))) (read-segment g t f.0)
    ∙ ap (λ (m : List ℕ). g ∷ decode_segments (length gs) m) (drop_at e t (size_segment g) (length-encode_segment g))
    ∙ ap (λ (q : List AssignedSegment). g ∷ q) (read-segments gs l f.1)

pub read-assignment : (a : ConsumerAssignment) (l : List ℕ) → FitAssignment a → decode_assignment (encode_assignment a ++ l) ≡ a
unfolding decode_assignment num encode_assignment
read-assignment a l f =
    let gs : List AssignedSegment = a.segments in
    let t : List ℕ = encode_segments gs ++ l in
    let u : List ℕ = bytes_of 2 (length gs) ++ t in
    let w : List ℕ = bytes_of 8 a.layout_epoch ++ u in
    let e : encode_assignment a ++ l ≡ w = simp append_assoc in
    let d8 : drop 8 w ≡ u = drop-front 8 a.layout_epoch u in
    let d10 : drop 10 w ≡ t = sym (drop-drop 2 8 w) ∙ ap (drop 2) d8 ∙ drop-front 2 (length gs) t in
    let r : decode_assignment w ≡ record { layout_epoch = a.layout_epoch; segments = gs } =
    cc (d8, d10, be-front 8 a.layout_epoch u f.epoch, be-front 2 (length gs) t f.count, read-segments gs l f.segments) in
    ap decode_assignment e ∙ r

-- ---- read, then encoded

-- the number w bytes behind the place at, written again
write-num : (w at : ℕ) (l : List ℕ) → at + w ≤ length l → Bytes l → bytes_of w (be (take w (drop at l))) ≡ take w (drop at l)
write-num w at l h b = bytes_of-front w (drop at l) (rw length-drop (omega arith)) (Bytes-drop at l b)

write-range : (l : List ℕ) → 4 ≤ length l → Bytes l → encode_range (decode_range l) ≡ take 4 l
unfolding encode_range decode_range num
write-range l h b =
    ap (λ (m : List ℕ). m ++ bytes_of 2 (be (take 2 (drop 2 l)))) (bytes_of-front 2 l (omega arith) b)
    ∙ ap (λ (m : List ℕ). take 2 l ++ m) (write-num 2 2 l (omega arith) b)
    ∙ sym (take-add 2 2 l)

write-ranges : (n : ℕ) (l : List ℕ) → 4 * n ≤ length l → Bytes l → encode_ranges (decode_ranges n l) ≡ take (4 * n) l
unfolding encode_ranges decode_ranges
write-ranges zero l h b = refl
write-ranges (suc n) l h b =
    let e : 4 * suc n ≡ 4 + 4 * n = omega arith in
    ap (λ (m : List ℕ). m ++ encode_ranges (decode_ranges n (drop 4 l))) (write-range l (omega arith) b)
    ∙ ap (λ (m : List ℕ). take 4 l ++ m) (write-ranges n (drop 4 l) (rw length-drop (omega arith)) (Bytes-drop 4 l b))
    ∙ sym (take-add 4 (4 * n) l)
    ∙ ap (λ (k : ℕ). take k l) (sym e)

-- the size of the record at the front, by the count that it has
pub size_of : (l : List ℕ) → size_segment (decode_segment l) ≡ 14 + 4 * num 2 (drop 12 l)
unfolding size_segment decode_segment
size_of l = ap (λ (k : ℕ). 14 + 4 * k) (length-ranges_of (num 2 (drop 12 l)) (drop 14 l))

four : (l : List ℕ) (n : ℕ) → take (14 + 4 * n) l ≡ take 8 l ++ (take 4 (drop 8 l) ++ (take 2 (drop 12 l) ++ take (4 * n) (drop 14 l)))
four l n =
    let a : take 14 l ≡ take 12 l ++ take 2 (drop 12 l) = take-add 12 2 l in
    let b : take 12 l ≡ take 8 l ++ take 4 (drop 8 l) = take-add 8 4 l in
    let d : take (14 + 4 * n) l ≡ ((take 8 l ++ take 4 (drop 8 l)) ++ take 2 (drop 12 l)) ++ take (4 * n) (drop 14 l) =
    cc (take-add 14 (4 * n) l) in
    d ∙ simp append_assoc

pub write-segment : (l : List ℕ) → size_segment (decode_segment l) ≤ length l → Bytes l
    → encode_segment (decode_segment l) ≡ take (size_segment (decode_segment l)) l
unfolding encode_segment decode_segment num
write-segment l h b =
    let n : ℕ = num 2 (drop 12 l) in
    let z : size_segment (decode_segment l) ≡ 14 + 4 * n = size_of l in
    let a : bytes_of 8 (be (take 8 l)) ≡ take 8 l = bytes_of-front 8 l (omega arith) b in
    let c : encode_range (decode_range (drop 8 l)) ≡ take 4 (drop 8 l) =
    write-range (drop 8 l) (rw length-drop (omega arith)) (Bytes-drop 8 l b) in
    let e : bytes_of 2 (be (take 2 (drop 12 l))) ≡ take 2 (drop 12 l) = write-num 2 12 l (omega arith) b in
    let f : encode_ranges (decode_ranges n (drop 14 l)) ≡ take (4 * n) (drop 14 l) =
    write-ranges n (drop 14 l) (rw length-drop (omega arith)) (Bytes-drop 14 l b) in
    cc (z, a, c, e, f, length-ranges_of n (drop 14 l), four l n)

pub write-segments : (n : ℕ) (l : List ℕ) → size_segments (decode_segments n l) ≤ length l → Bytes l
    → encode_segments (decode_segments n l) ≡ take (size_segments (decode_segments n l)) l
unfolding encode_segments decode_segments size_segments
write-segments zero l h b = refl
write-segments (suc n) l h b =
    let z : ℕ = size_segment (decode_segment l) in
    ap (λ (m : List ℕ). m ++ encode_segments (decode_segments n (drop z l))) (write-segment l (omega arith) b)
    ∙ ap (λ (m : List ℕ). take z l ++ m) (write-segments n (drop z l) (rw length-drop (omega arith)) (Bytes-drop z l b))
    ∙ sym (take-add z (size_segments (decode_segments n (drop z l))) l)

pub write-assignment : (l : List ℕ) → size_assignment (decode_assignment l) ≤ length l → Bytes l
    → encode_assignment (decode_assignment l) ≡ take (size_assignment (decode_assignment l)) l
unfolding encode_assignment decode_assignment num size_assignment
write-assignment l h b =
    let n : ℕ = num 2 (drop 8 l) in
    let m : ℕ = size_segments (decode_segments n (drop 10 l)) in
    let a : bytes_of 8 (be (take 8 l)) ≡ take 8 l = bytes_of-front 8 l (omega arith) b in
    let c : bytes_of 2 (be (take 2 (drop 8 l))) ≡ take 2 (drop 8 l) = write-num 2 8 l (omega arith) b in
    let e : encode_segments (decode_segments n (drop 10 l)) ≡ take m (drop 10 l) =
    write-segments n (drop 10 l) (rw length-drop (omega arith)) (Bytes-drop 10 l b) in
    let f : take 10 l ≡ take 8 l ++ take 2 (drop 8 l) = take-add 8 2 l in
    let g : take (10 + m) l ≡ (take 8 l ++ take 2 (drop 8 l)) ++ take m (drop 10 l) = cc (take-add 10 m l) in
    let k : encode_assignment (decode_assignment l) ≡ take 8 l ++ (take 2 (drop 8 l) ++ take m (drop 10 l)) =
    cc (length-segments_of n (drop 10 l)) in
    k ∙ simp (← append_assoc) (sym g)

-- ---- what is read fits

fit-range : (l : List ℕ) → Bytes l → FitRange (decode_range l)
unfolding decode_range num
fit-range l b = record { start = below 2 l b; end = below 2 (drop 2 l) (Bytes-drop 2 l b) }

fit-ranges : (n : ℕ) (l : List ℕ) → Bytes l → FitRanges (decode_ranges n l)
unfolding decode_ranges
fit-ranges zero l b = tt
fit-ranges (suc n) l b = (fit-range l b, fit-ranges n (drop 4 l) (Bytes-drop 4 l b))

pub fit-segment : (l : List ℕ) → Bytes l → FitSegment (decode_segment l)
unfolding decode_segment num
fit-segment l b =
    record {
      id = below 8 l b;
      range = fit-range (drop 8 l) (Bytes-drop 8 l b);
      count = rw length-ranges_of (below 2 (drop 12 l) (Bytes-drop 12 l b));
      buckets = fit-ranges (num 2 (drop 12 l)) (drop 14 l) (Bytes-drop 14 l b);
    }

pub fit-segments : (n : ℕ) (l : List ℕ) → Bytes l → FitSegments (decode_segments n l)
unfolding decode_segments
fit-segments zero l b = tt
fit-segments (suc n) l b =
    (fit-segment l b, fit-segments n (drop (size_segment (decode_segment l)) l) (Bytes-drop (size_segment (decode_segment l)) l b))

pub fit-assignment : (l : List ℕ) → Bytes l → FitAssignment (decode_assignment l)
unfolding decode_assignment num
fit-assignment l b =
    record {
      epoch = below 8 l b;
      count = rw length-segments_of (below 2 (drop 8 l) (Bytes-drop 8 l b));
      segments = fit-segments (num 2 (drop 8 l)) (drop 10 l) (Bytes-drop 10 l b);
    }

-- ---- one to one

-- a packed assignment that is encoded is one, whatever follows it
pub starts-encode : (a : ConsumerAssignment) (r : List ℕ) → FitAssignment a → ok_assignment a ≡ true
    → starts_assignment (encode_assignment a ++ r) ≡ true
unfolding starts_assignment
starts-encode a r f o =
    let e : decode_assignment (encode_assignment a ++ r) ≡ a = read-assignment a r f in
    let k : size_assignment a ≤ length (encode_assignment a ++ r) = simp (length-append, length-encode_assignment) (omega arith) in
    simp (e, o, le-leb _ _ k)

-- bytes that are a packed assignment are the encoding of what they are read as
pub encode-whole : (l : List ℕ) → Bytes l → is_assignment l ≡ true → encode_assignment (decode_assignment l) ≡ l
unfolding is_assignment
encode-whole l b e =
    let z : size_assignment (decode_assignment l) ≡ length l = eqb-true _ _ (both_true (starts_assignment l) _ e).1 in
    write-assignment l (omega arith) b ∙ take_all (size_assignment (decode_assignment l)) l (omega arith)

pub segment-inj : (g h : AssignedSegment) → FitSegment g → FitSegment h → encode_segment g ≡ encode_segment h → g ≡ h
segment-inj g h f k e = sym (read-segment g [] f) ∙ ap (λ (l : List ℕ). decode_segment (l ++ [])) e ∙ read-segment h [] k

-- two records where they lie, compared as bytes
pub segment-same : (l m : List ℕ) → Bytes l → Bytes m → size_segment (decode_segment l) ≤ length l → size_segment (decode_segment m) ≤ length m
    → take (size_segment (decode_segment l)) l ≡ take (size_segment (decode_segment m)) m → decode_segment l ≡ decode_segment m
segment-same l m bl bm hl hm e =
    segment-inj (decode_segment l) (decode_segment m) (fit-segment l bl) (fit-segment m bm) (write-segment l hl bl ∙ e ∙ sym (write-segment m hm bm))

pub assignment-inj : (a b : ConsumerAssignment) → FitAssignment a → FitAssignment b → encode_assignment a ≡ encode_assignment b → a ≡ b
assignment-inj a b f k e = sym (read-assignment a [] f) ∙ ap (λ (l : List ℕ). decode_assignment (l ++ [])) e ∙ read-assignment b [] k
