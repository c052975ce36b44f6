-- Laws of ranges, segments and packed assignments read where they lie, over plain lists and numbers.
--
-- In order: the range and the ranges at a place (`range_at`, `ranges-at`), the record and the records there (`segment-at`, `segments-at`),
-- and how many there are; a row by its first range (`overlaps-found` to `ok-pass`), and a row that rises (`rising-ok`); segments by their
-- first (`ok-segment`, `ok-head`, `ok-tail`, `ok-weaken`); what `record_at` reads (`Seen`) and answers (`record-short` to `record-valid`), and
-- what its answer says (`RecordIs`, `record_is`); one turn of reading segments (`size-turn`, `record-malformed`, `id-low`, `id-rises`); a walk over a packed
-- assignment (specs/Rest): `rest-start`, `rest-head`, `rest-next`.
--
-- A caller that walks over a packed assignment needs `segments-at` and `Rest`; the rest serves the readers of src/.
-- Assumes nothing.
use Rattle.std.proofs.lemmas.Option.{same_Some}
use Rattle.std.specs.Prelude.{Some, None}
use Rattle.std.specs.Bool.{then_some}
use Rattle.std.proofs.lemmas.Option.{cond_some}
use Prim.Native.Nat.{ℕ, suc, ◌+◌, ◌-◌, ◌*◌, ◌≤◌, ◌<◌, min}
use native.Mathlib.Numerals.{add-one}
use native.Mathlib.Omega.{arith}
use mathlib.Core.Path.{◌≡◌, refl, sym, ap, ◌∙◌, subst}
use mathlib.Core.Bool.{Bool, true, false, ◌&&◌, ◌||◌, and-false, and-true}
use mathlib.Core.List.{List, [], ◌∷◌}
use lib.ListN.{length, drop}
use lib.Seq.{drop-drop}
use lib.Dec.{leb}
use borrow.Author.Tests.{le-leb, lt-leb, leb-true, leb-false}
use Rattle.slice.specs.BoolLaws.{both_true}
use Rattle.slice.proofs.TestLaws.{cond-second}
use Rattle.topic_types.specs.declared.KeyRange.{KeyRange}
use Rattle.topic_types.specs.KeyRanges.{key_range}
use Rattle.ranges.specs.Overlap.{overlap, overlaps_any, any_overlap, starts_from, rising_from}
use Rattle.ranges.proofs.OverlapLaws.{rising-apart}
use Rattle.slice_int.specs.Be.{be_at}
use Rattle.slice_int.proofs.RowLaws.{Row, row-none, row_at, length-row}
use Rattle.packed.specs.Assignment.{AssignedSegment, slot_size, num, decode_range, decode_ranges, decode_segment, decode_segments, decode_assignment}
use Rattle.packed.specs.Assignment.{size_segment, size_segments, size_assignment, is_in_order, all_in_order, ok_buckets, ok_segment, ok_from}
use Rattle.packed.specs.Assignment.{ok_assignment, starts_assignment}
use Rattle.packed.specs.Answers.{record_valid, record_read}
pub use Rattle.packed.specs.Rest.{Rest}

-- ---- ranges at a place

-- the range whose two numbers were read there
pub range_at : (s : List ℕ) (at a b : ℕ) → a ≡ be_at 2 s at → b ≡ be_at 2 s (at + 2) → key_range a b ≡ decode_range (drop at s)
unfolding decode_range num be_at
range_at s at a b ea eb = cc (drop-drop 2 at s)

ranges-row : Row (λ l. 4) decode_range decode_ranges
unfolding decode_ranges
ranges-row = record { none = λ l. refl; more = λ n l. refl }

pub ranges-at : (s : List ℕ) (p n : ℕ) (r : KeyRange) → 0 < n → r ≡ decode_range (drop p s)
    → decode_ranges n (drop p s) ≡ r ∷ decode_ranges (n - 1) (drop (p + 4) s)
ranges-at s p n r h e = row_at ranges-row s p n r 4 h e refl

pub ranges-none : (n : ℕ) (l : List ℕ) → n ≤ 0 → decode_ranges n l ≡ []
ranges-none = row-none ranges-row

pub length-ranges_of : (n : ℕ) (l : List ℕ) → length (decode_ranges n l) ≡ n
length-ranges_of = length-row ranges-row

-- ---- records at a place

-- the record whose id, range and count were read there
pub segment-at : (s : List ℕ) (at i : ℕ) (r : KeyRange) (n : ℕ) → i ≡ be_at 8 s at → r ≡ decode_range (drop (at + 8) s) → n ≡ be_at 2 s (at + 12)
    → decode_segment (drop at s) ≡ record { segment_id = i; range = r; buckets = decode_ranges n (drop (at + 14) s) }
unfolding decode_segment num be_at
segment-at s at i r n ei er en = cc (drop-drop 8 at s, drop-drop 12 at s, drop-drop 14 at s)

pub size-least : (g : AssignedSegment) → 14 ≤ size_segment g
unfolding size_segment
size-least g = omega arith

segments-row : Row (λ l. size_segment (decode_segment l)) decode_segment decode_segments
unfolding decode_segments
segments-row = record { none = λ l. refl; more = λ n l. refl }

pub segments-at : (s : List ℕ) (p n z : ℕ) → 0 < n → z ≡ size_segment (decode_segment (drop p s))
    → decode_segments n (drop p s) ≡ decode_segment (drop p s) ∷ decode_segments (n - 1) (drop (p + z) s)
segments-at s p n z h e = row_at segments-row s p n (decode_segment (drop p s)) z h refl e

pub length-segments_of : (n : ℕ) (l : List ℕ) → length (decode_segments n l) ≡ n
length-segments_of = length-row segments-row

-- the segments of a packed assignment, by the count that was read
pub first-segments : (s : List ℕ) (n : ℕ) → n ≡ be_at 2 s 8 → (decode_assignment s).segments ≡ decode_segments n (drop 10 s)
unfolding decode_assignment num be_at
first-segments s n e = ap (λ (k : ℕ). decode_segments k (drop 10 s)) (sym e)

-- ---- buckets

-- the tests of the first range of a row decide, or leave it to the others
module _ (r : KeyRange) (rs : List KeyRange) where
  pub overlaps-found : (x : KeyRange) → overlap r x ≡ true → overlaps_any x (r ∷ rs) ≡ true
  unfolding overlaps_any
  overlaps-found x e = ap (λ (t : Bool). t || overlaps_any x rs) e

  pub overlaps-further : (x : KeyRange) → overlap r x ≡ false → overlaps_any x (r ∷ rs) ≡ overlaps_any x rs
  unfolding overlaps_any
  overlaps-further x e = ap (λ (t : Bool). t || overlaps_any x rs) e

  pub rising-stops : (low : ℕ) → starts_from low r ≡ false → rising_from low (r ∷ rs) ≡ false
  unfolding rising_from
  rising-stops low e = ap (λ (t : Bool). t && rising_from (suc r.end) rs) e

  pub rising-further : (low high : ℕ) → starts_from low r ≡ true → high ≡ r.end + 1 → rising_from low (r ∷ rs) ≡ rising_from high rs
  unfolding rising_from
  rising-further low high e f =
      ap (λ (t : Bool). t && rising_from (suc r.end) rs) e
      ∙ ap (λ (k : ℕ). rising_from k rs) (sym (add-one r.end) ∙ sym f)

  pub ok-reversed : r.end < r.start → ok_buckets (r ∷ rs) ≡ false
  unfolding ok_buckets all_in_order
  ok-reversed h = simp (lt-leb r.start r.end h)

  pub ok-clash : overlaps_any r rs ≡ true → ok_buckets (r ∷ rs) ≡ false
  unfolding ok_buckets any_overlap
  ok-clash e = simp (e, and-false)

  pub ok-pass : r.start ≤ r.end → overlaps_any r rs ≡ false → ok_buckets (r ∷ rs) ≡ ok_buckets rs
  unfolding ok_buckets all_in_order any_overlap
  ok-pass h e = simp (le-leb r.start r.end h, e)

rising-in-order : (low : ℕ) (rs : List KeyRange) → rising_from low rs ≡ true → all_in_order rs ≡ true
unfolding rising_from all_in_order
rising-in-order low [] e = refl
rising-in-order low (r ∷ rs) e =
    let p : (starts_from low r ≡ true) × (rising_from (suc r.end) rs ≡ true) = both_true _ _ e in
    let q : (leb low r.start ≡ true) × (is_in_order r ≡ true) = both_true _ _ p.0 in
    simp q.1 (rising-in-order (suc r.end) rs p.1)

pub rising-ok : (low : ℕ) (rs : List KeyRange) → rising_from low rs ≡ true → ok_buckets rs ≡ true
unfolding ok_buckets
rising-ok low rs e = simp (rising-in-order low rs e, rising-apart low rs e)

-- ---- segments

module _ (low : ℕ) (g : AssignedSegment) (gs : List AssignedSegment) (e : ok_from low (g ∷ gs) ≡ true) where
  pub ok-segment : ok_segment g ≡ true
  unfolding ok_from
  ok-segment = (both_true (ok_segment g) _ e).0

  pub ok-head : low ≤ g.segment_id
  unfolding ok_from
  ok-head = leb-true low g.segment_id (both_true (leb low g.segment_id) _ (both_true (ok_segment g) _ e).1).0

  pub ok-tail : ok_from (suc g.segment_id) gs ≡ true
  unfolding ok_from
  ok-tail = (both_true (leb low g.segment_id) _ (both_true (ok_segment g) _ e).1).1

pub ok-weaken : (low : ℕ) (gs : List AssignedSegment) → ok_from low gs ≡ true → ok_from 0 gs ≡ true
unfolding ok_from
ok-weaken low [] e = refl
ok-weaken low (g ∷ gs) e = simp (ok-segment low g gs e, le-leb 0 g.segment_id (omega arith), ok-tail low g gs e)

-- two upper bounds are one
leb-min : (a m n : ℕ) (x : Bool) → (leb a m && (leb a n && x)) ≡ (leb a (min m n) && x)
leb-min a m n x = go (leb a m) (leb a n) refl refl
  where
    go : (t u : Bool) → leb a m ≡ t → leb a n ≡ u → (leb a m && (leb a n && x)) ≡ (leb a (min m n) && x)
    go true true e f = let p = leb-true a m e in let q = leb-true a n f in simp (e, f, le-leb a (min m n) (omega arith))
    go false u e f = let p = leb-false a m e in simp (e, lt-leb a (min m n) (omega arith))
    go true false e f = let q = leb-false a n f in simp (e, f, lt-leb a (min m n) (omega arith))

-- a packed assignment ends by the end of the bytes and of the slot
pub starts : (s : List ℕ)
    → starts_assignment s ≡ (leb (size_assignment (decode_assignment s)) (min (length s) slot_size) && ok_from 0 (decode_assignment s).segments)
unfolding starts_assignment ok_assignment
starts s = leb-min (size_assignment (decode_assignment s)) (length s) slot_size (ok_from 0 (decode_assignment s).segments)

-- ---- what `record_at` reads at a place, and answers

pub record Seen (s : List ℕ) (at i : ℕ) (r : KeyRange) (n : ℕ) : Type 0 where
  pub id-is : i ≡ be_at 8 s at
  pub range-is : r ≡ decode_range (drop (at + 8) s)
  pub count-is : n ≡ be_at 2 s (at + 12)

pub record-short : (s : List ℕ) (at end : ℕ) → end < at + size_segment (decode_segment (drop at s)) → None ≡ record_read s at end
unfolding record_read record_valid
record-short s at end h = simp (lt-leb _ _ h)

module _ (s : List ℕ) (at i : ℕ) (r : KeyRange) (n : ℕ) (x : Seen s at i r n) where
  seen-segment : decode_segment (drop at s) ≡ record { segment_id = i; range = r; buckets = decode_ranges n (drop (at + 14) s) }
  seen-segment = segment-at s at i r n x.id-is x.range-is x.count-is

  pub seen_size : size_segment (decode_segment (drop at s)) ≡ 14 + 4 * n
  unfolding size_segment
  seen_size = ap size_segment seen-segment ∙ ap (λ (k : ℕ). 14 + 4 * k) (length-ranges_of n (drop (at + 14) s))

  pub seen-id : i ≡ (decode_segment (drop at s)).segment_id
  seen-id = ap (λ (g : AssignedSegment). g.segment_id) (sym seen-segment)

  pub seen-ok : ok_segment (decode_segment (drop at s)) ≡ (is_in_order r && ok_buckets (decode_ranges n (drop (at + 14) s)))
  unfolding ok_segment
  seen-ok = ap ok_segment seen-segment

  module _ (end : ℕ) where
    record-bad : ok_segment (decode_segment (drop at s)) ≡ false → None ≡ record_read s at end
    unfolding record_read record_valid
    record-bad e = simp (e, and-false)

    pub record-reversed : r.end < r.start → None ≡ record_read s at end
    record-reversed h = record-bad (seen-ok ∙ simp (lt-leb r.start r.end h))

    module _ (h : r.start ≤ r.end) (t : Bool) (e : t ≡ ok_buckets (decode_ranges n (drop (at + 14) s))) where
      record-clash : t ≡ false → None ≡ record_read s at end
      record-clash f = record-bad (seen-ok ∙ simp (le-leb r.start r.end h, ← e, f))

      record-valid : t ≡ true → at + 14 + 4 * n ≤ end → Some (i, 14 + 4 * n) ≡ record_read s at end
      unfolding record_read record_valid
      record-valid f k =
          let o : ok_segment (decode_segment (drop at s)) ≡ true = seen-ok ∙ simp (le-leb r.start r.end h, ← e, f) in
          let q : leb (at + (14 + 4 * n)) end ≡ true = le-leb (at + (14 + 4 * n)) end (omega arith) in
          let d : (decode_segment (drop at s)).segment_id ≡ i = ap (λ (g : AssignedSegment). g.segment_id) seen-segment in
          simp (q, o, seen_size, d)

      pub record-told : at + 14 + 4 * n ≤ end → then_some t (i, 14 + 4 * n) ≡ record_read s at end
      record-told k = go t refl
        where
          go : (b : Bool) → t ≡ b → then_some b (i, 14 + 4 * n) ≡ record_read s at end
          go true f = record-valid f k
          go false f = record-clash f

-- ---- what the answer of `record_at` says

pub record RecordIs (s : List ℕ) (p end i z : ℕ) : Type 0 where
  pub id-is : i ≡ (decode_segment (drop p s)).segment_id
  pub size_is : z ≡ size_segment (decode_segment (drop p s))
  pub fits : p + size_segment (decode_segment (drop p s)) ≤ end
  pub ok : ok_segment (decode_segment (drop p s)) ≡ true

pub record_is : (s : List ℕ) (p end i z : ℕ) → Some (i, z) ≡ record_read s p end → RecordIs s p end i z
unfolding record_read record_valid
record_is s p end i z e =
    let c = cond_some (record_valid s p end) _ _ (sym e) in
    let b = both_true _ _ c.0 in
    record { id-is = sym (ap (λ (q : ℕ × ℕ). q.0) c.1); size_is = sym (ap (λ (q : ℕ × ℕ). q.1) c.1); fits = leb-true _ _ b.0; ok = b.1 }

not_valid : (s : List ℕ) (p end : ℕ) → None ≡ record_read s p end → record_valid s p end ≡ false
unfolding record_read
not_valid s p end e = (cond-second (record_valid s p end) _ _ _ (λ q. let o : ◌≡◌ {A = ℕ} 0 1 = cc in omega arith) (sym e)).0

-- ---- one turn of reading segments: what is left decides the whole

-- n segments from the place p on end by the place end, are valid, and their ids rise from low on
abbrev pub rest : List ℕ → ℕ → ℕ → ℕ → ℕ → Bool
rest s end p n low = leb (p + size_segments (decode_segments n (drop p s))) end && ok_from low (decode_segments n (drop p s))

pub size-turn : (s : List ℕ) (p n z : ℕ) → 0 < n → z ≡ size_segment (decode_segment (drop p s))
    → p + size_segments (decode_segments n (drop p s)) ≡ p + z + size_segments (decode_segments (n - 1) (drop (p + z) s))
unfolding size_segments
size-turn s p n z h e = ap (λ (l : List AssignedSegment). p + size_segments l) (segments-at s p n z h e) ∙ omega arith

module _ (s : List ℕ) (p n low end : ℕ) (h : 0 < n) where
  pub ok-turn : (z : ℕ) → z ≡ size_segment (decode_segment (drop p s))
      → ok_from low (decode_segments n (drop p s))
      ≡ (ok_segment (decode_segment (drop p s)) && (leb low (decode_segment (drop p s)).segment_id
      && ok_from (suc (decode_segment (drop p s)).segment_id) (decode_segments (n - 1) (drop (p + z) s))))
  unfolding ok_from
  ok-turn z e = ap (ok_from low) (segments-at s p n z h e)

  -- no valid record stands there
  pub record-malformed : None ≡ record_read s p end → rest s end p n low ≡ false
  unfolding record_valid
  record-malformed e = go (ok_segment (decode_segment (drop p s))) refl
    where
      go : (t : Bool) → ok_segment (decode_segment (drop p s)) ≡ t → rest s end p n low ≡ false
      go false f = simp (ok-turn (size_segment (decode_segment (drop p s))) refl, f, and-false)
      go true f =
          let k : (leb (p + size_segment (decode_segment (drop p s))) end && ok_segment (decode_segment (drop p s))) ≡ false = not_valid s p end e in
          let m : leb (p + size_segment (decode_segment (drop p s))) end ≡ false = sym (and-true _) ∙ simp f at k in
          let q : end < p + size_segment (decode_segment (drop p s)) = leb-false (p + size_segment (decode_segment (drop p s))) end m in
          simp (lt-leb (p + size_segments (decode_segments n (drop p s))) end
          (rw (size-turn s p n (size_segment (decode_segment (drop p s))) h refl) (omega arith)))

  module _ (i z : ℕ) (g : RecordIs s p end i z) where
    -- its id does not rise
    pub id-low : i < low → rest s end p n low ≡ false
    id-low k = simp (ok-turn z g.size_is, g.ok, ← g.id-is, lt-leb low i k, and-false)

    pub id-rises : low ≤ i → rest s end p n low ≡ rest s end (p + z) (n - 1) (suc i)
    id-rises k = simp (size-turn s p n z h g.size_is, ok-turn z g.size_is, g.ok, ← g.id-is, le-leb low i k)

-- ---- a walk over a packed assignment

pub rest-start : (s : List ℕ) (m : ℕ) → starts_assignment s ≡ true → m ≡ be_at 2 s 8 → Rest s 10 m
unfolding starts_assignment ok_assignment size_assignment
rest-start s m h e =
    let a = both_true (leb (size_assignment (decode_assignment s)) (length s)) _ h in
    let b = both_true (leb (size_assignment (decode_assignment s)) slot_size) _ a.1 in
    let f : (decode_assignment s).segments ≡ decode_segments m (drop 10 s) = first-segments s m e in
    record {
      fits = subst (λ (l : List AssignedSegment). 10 + size_segments l ≤ length s) f (leb-true _ _ a.0);
      ok = subst (λ (l : List AssignedSegment). ok_from 0 l ≡ true) f b.1;
    }

module _ (s : List ℕ) (p m z : ℕ) (h : 0 < m) (e : z ≡ size_segment (decode_segment (drop p s))) (r : Rest s p m) where
  pub rest-head : p + z ≤ length s
  rest-head = omega (arith, size-turn s p m z h e, r.fits)

  pub rest-next : Rest s (p + z) (m - 1)
  rest-next =
      let gs : List AssignedSegment = decode_segments (m - 1) (drop (p + z) s) in
      let o : ok_from 0 (decode_segment (drop p s) ∷ gs) ≡ true =
      subst (λ (l : List AssignedSegment). ok_from 0 l ≡ true) (segments-at s p m z h e) r.ok in
      record {
        fits = omega (arith, size-turn s p m z h e, r.fits);
        ok = ok-weaken (suc (decode_segment (drop p s)).segment_id) gs (ok-tail 0 (decode_segment (drop p s)) gs o);
      }
