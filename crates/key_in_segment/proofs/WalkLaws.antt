-- A segment's key over records that are read where they lie.
--
-- In order: ranges at a place (`ranges-next`, `ranges-all`); size and least hash of the record at a place, by its range and its count (`at_size`, `at-whole`,
-- `at-bucketed`); records by the first of them (`key-found`, `key-further`, `key-none`); the cases of `key_in_segment`
-- (`key-malformed`, `key-whole`).
-- Assumes nothing.
use Rattle.std.specs.Prelude.{Some, None, Ok, Err}
use Prim.Native.Nat.{ℕ, ◌+◌, ◌-◌, ◌*◌, ◌≤◌, ◌<◌}
use native.Mathlib.Omega.{arith}
use mathlib.Core.Path.{◌≡◌, refl, sym, ap, ap₂, ◌∙◌}
use mathlib.Core.Bool.{true, false}
use mathlib.Core.List.{List, [], ◌∷◌}
use lib.ListN.{length, drop}
use lib.Dec.{leb}
use borrow.Author.Tests.{leb-true, eq-eqb, ne_eqb}
use Rattle.slice.specs.BoolLaws.{both_true}
use Rattle.topic_types.specs.declared.KeyRange.{KeyRange}
use Rattle.refusal.specs.declared.Refusal.TheVariants.{MalformedInput}
use Rattle.keyed.specs.Keyed.{find}
use Rattle.slice_int.specs.Be.{be_at}
use Rattle.packed.specs.Assignment.{AssignedSegment, id_of, decode_range, decode_ranges, decode_segment, decode_segments, size_segment, ok_segment, is_assignment}
use Rattle.packed.proofs.AssignmentLaws.{ranges-at, length-ranges_of, segment-at, seen_size}
use Rattle.packed.proofs.WholeLaws.{Whole}
use Rattle.key_in_segment.specs.Least.{least_taken}
use Rattle.key_in_segment.specs.Ends.{least_in}
use Rattle.key_in_segment.specs.SegmentKey.{key_at, key_in, key_in_segment}
use Rattle.key_in_segment.proofs.LeastLaws.{least-whole, least-bucketed}

-- ---- ranges at a place

-- the i-th of n, and those behind it
pub ranges-next : (s : List ℕ) (at n i : ℕ) (r : KeyRange) → i < n → r ≡ decode_range (drop (at + 4 * i) s)
    → decode_ranges (n - i) (drop (at + 4 * i) s) ≡ r ∷ decode_ranges (n - (i + 1)) (drop (at + 4 * (i + 1)) s)
ranges-next s at n i r h e =
    let p : at + 4 * i + 4 ≡ at + 4 * (i + 1) = omega arith in
    let q : n - i - 1 ≡ n - (i + 1) = omega arith in
    ranges-at s (at + 4 * i) (n - i) r (omega arith) e
    ∙ ap (λ (k : ℕ). r ∷ decode_ranges k (drop (at + 4 * i + 4) s)) q
    ∙ ap (λ (k : ℕ). r ∷ decode_ranges (n - (i + 1)) (drop k s)) p

pub ranges-all : (s : List ℕ) (at n : ℕ) → decode_ranges n (drop at s) ≡ decode_ranges (n - 0) (drop (at + 4 * 0) s)
ranges-all s at n =
    let p : at ≡ at + 4 * 0 = omega arith in
    let q : n ≡ n - 0 = omega arith in
    ap (λ (k : ℕ). decode_ranges n (drop k s)) p ∙ ap (λ (k : ℕ). decode_ranges k (drop (at + 4 * 0) s)) q

-- ---- the record at a place, by the range and the count that were read there

module _ (s : List ℕ) (p : ℕ) (r : KeyRange) (n : ℕ) (er : r ≡ decode_range (drop (p + 8) s)) (en : n ≡ be_at 2 s (p + 12)) where
  abbrev g : AssignedSegment
  g = decode_segment (drop p s)

  pub at_size : size_segment g ≡ 14 + 4 * n
  at_size = seen_size s p (be_at 8 s p) r n (record { id-is = refl; range-is = er; count-is = en })

  seen : g ≡ record { segment_id = be_at 8 s p; range = r; buckets = decode_ranges n (drop (p + 14) s) }
  seen = segment-at s p (be_at 8 s p) r n refl er en

  range-is : g.range ≡ r
  range-is = ap (λ (x : AssignedSegment). x.range) seen

  buckets-are : g.buckets ≡ decode_ranges n (drop (p + 14) s)
  buckets-are = ap (λ (x : AssignedSegment). x.buckets) seen

  pub at-whole : ok_segment g ≡ true → n ≡ 0 → Some r.start ≡ least_taken g
  unfolding ok_segment decode_ranges
  at-whole ok z =
      let h : g.range.start ≤ g.range.end = leb-true _ _ (both_true (leb g.range.start g.range.end) _ ok).0 in
      let e : g.buckets ≡ [] = buckets-are ∙ ap (λ (k : ℕ). decode_ranges k (drop (p + 14) s)) z in
      ap (λ (x : KeyRange). Some x.start) (sym range-is) ∙ least-whole g e h

  pub at-bucketed : (n ≡ 0 → ⊥) → least_in r (decode_ranges n (drop (p + 14) s)) ≡ least_taken g
  at-bucketed z =
      let some : g.buckets ≡ [] → ⊥ =
      λ e. z (sym (length-ranges_of n (drop (p + 14) s)) ∙ ap length (sym buckets-are ∙ e)) in
      ap₂ least_in (sym range-is) (sym buckets-are) ∙ least-bucketed g some

-- ---- records by the first of them

module _ (id : ℕ) (g : AssignedSegment) (gs : List AssignedSegment) where
  pub key-found : id ≡ g.segment_id → key_at (least_taken g) ≡ key_in (find id_of id (g ∷ gs))
  unfolding key_in
  key-found e = rw (eq-eqb id g.segment_id e)

  pub key-further : (id ≡ g.segment_id → ⊥) → key_in (find id_of id (g ∷ gs)) ≡ key_in (find id_of id gs)
  unfolding key_in
  key-further e = rw (ne_eqb id g.segment_id e)

pub key-none : (id : ℕ) → (Ok None) ≡ key_in (find id_of id [])
unfolding key_in
key-none id = refl

-- ---- the cases of `key_in_segment`

module _ (s : List ℕ) (id : ℕ) where
  pub key-malformed : is_assignment s ≡ false → Err MalformedInput ≡ key_in_segment s id
  unfolding key_in_segment
  key-malformed e = rw e

  pub key-whole : (n : ℕ) → Whole s n → key_in (find id_of id (decode_segments n (drop 10 s))) ≡ key_in_segment s id
  unfolding key_in_segment
  key-whole n w = rw (w.is-assignment, w.segments-are)
