-- Which bucket lies outside its segment's range first (34), as the walks over a packed assignment find it.
--
-- In order: a segment's buckets one by one (`Within`: `within-start`, `within_low`, `within-high`, `within-next`, `within_end`); a record
-- (`outside-at`); the records one by one (`Held`: `held_start`, `held_found`, `held_next`, `held-end`).
-- Assumes nothing.
use Rattle.std.specs.Prelude.{Option, Some, None, Ok, Err}
use Prim.Native.Nat.{ℕ, ◌+◌, ◌-◌, ◌*◌, ◌≤◌, ◌<◌}
use native.Mathlib.Omega.{arith}
use mathlib.Core.Path.{◌≡◌, refl, sym, ap, ◌∙◌}
use mathlib.Core.List.{List, ◌∷◌}
use lib.ListN.{drop}
use Rattle.topic_types.specs.declared.KeyRange.{KeyRange}
use Rattle.refusal.specs.declared.Refusal.TheVariants.{BucketOutsideSegment}
use Rattle.slice_int.specs.Be.{be_at}
use Rattle.packed.specs.Assignment.{AssignedSegment, decode_range, decode_ranges, decode_segment, decode_segments, size_segment}
use Rattle.packed.proofs.AssignmentLaws.{ranges-at, ranges-none, segment-at, segments-at, Rest, rest-next}
use Rattle.intake_content.specs.Content.{first_outside, outside_in, outside_of}
use Rattle.intake_content.proofs.OutsideLaws.{outside_low, outside_high, outside-next, place_found, place_none}
use Rattle.writer.specs.Write.{outside_at, held_of}

-- ---- a segment's buckets

-- the first index of n buckets from the place at on are inside, and the others stand from the place p on
pub record Within (s : List ℕ) (at n : ℕ) (range : KeyRange) (index p : ℕ) : Type 0 where
  pub place : p ≡ at + 4 * index
  pub few : index ≤ n
  pub left : first_outside range 0 (decode_ranges n (drop at s)) ≡ first_outside range index (decode_ranges (n - index) (drop p s))

pub within-start : (s : List ℕ) (at n : ℕ) (range : KeyRange) → Within s at n range 0 at
within-start s at n range =
    let e : n ≡ n - 0 = omega arith in
    record {
      place = omega arith;
      few = omega arith;
      left = ap (λ (k : ℕ). first_outside range 0 (decode_ranges k (drop at s))) e;
    }

module _ {s : List ℕ} {at n : ℕ} {range : KeyRange} {index p : ℕ} (W : Within s at n range index p) where
  pub within_end : n ≤ index → None ≡ outside_of (first_outside range 0 (decode_ranges n (drop at s)))
  unfolding first_outside
  within_end h =
      sym (ap outside_of (W.left ∙ ap (first_outside range index) (ranges-none (n - index) (drop p s) (omega arith))))

  module _ {k : KeyRange} (h : index < n) (e : k ≡ decode_range (drop p s)) where
    next-is : decode_ranges (n - index) (drop p s) ≡ k ∷ decode_ranges (n - index - 1) (drop (p + 4) s)
    next-is = ranges-at s p (n - index) k (omega arith) e

    range-opened : first_outside range 0 (decode_ranges n (drop at s)) ≡ first_outside range index (k ∷ decode_ranges (n - index - 1) (drop (p + 4) s))
    range-opened = W.left ∙ ap (first_outside range index) next-is

    pub within_low : k.start < range.start → Some index ≡ outside_of (first_outside range 0 (decode_ranges n (drop at s)))
    within_low l = sym (ap outside_of (range-opened ∙ outside_low range index k _ l))

    module _ (l : range.start ≤ k.start) where
      pub within-high : range.end < k.end → Some index ≡ outside_of (first_outside range 0 (decode_ranges n (drop at s)))
      within-high i = sym (ap outside_of (range-opened ∙ outside_high range index k _ l i))

      pub within-next : k.end ≤ range.end → Within s at n range (index + 1) (p + 4)
      within-next i =
          let q : n - index - 1 ≡ n - (index + 1) = omega arith in
          record { place = omega (arith, W.place); few = omega arith; left = range-opened ∙ outside-next range index k _ l i ∙ rw q }

-- ---- a record

-- with the range r and n buckets
pub outside-at : (s : List ℕ) (p : ℕ) (r : KeyRange) (n : ℕ) {x : Option ℕ} → r ≡ decode_range (drop (p + 8) s) → n ≡ be_at 2 s (p + 12)
    → x ≡ outside_of (first_outside r 0 (decode_ranges n (drop (p + 14) s))) → x ≡ outside_at (decode_segment (drop p s))
outside-at s p r n er en q = q ∙ sym (ap outside_at (segment-at s p (be_at 8 s p) r n refl er en))

-- ---- the records

-- no bucket before the place p is outside, and left records are left
pub record Held (s : List ℕ) (at m p left : ℕ) : Type 0 where
  pub rest : Rest s p left
  pub others : outside_in (decode_segments m (drop at s)) ≡ outside_in (decode_segments left (drop p s))

pub held_start : (s : List ℕ) (at m : ℕ) → Rest s at m → Held s at m at m
held_start s at m r = record { rest = r; others = refl }

module _ {s : List ℕ} {at m p left : ℕ} (H : Held s at m p left) where
  pub held-end : left ≤ 0 → (Ok record {}) ≡ held_of (outside_in (decode_segments m (drop at s)))
  unfolding outside_in decode_segments
  held-end h =
      let e : left ≡ 0 = omega arith in
      sym (ap held_of (H.others ∙ ap (λ (k : ℕ). outside_in (decode_segments k (drop p s))) e))

  module _ (h : 0 < left) where
    abbrev here : AssignedSegment
    here = decode_segment (drop p s)

    abbrev place : Option ℕ
    place = first_outside here.range 0 here.buckets

    opened : (z : ℕ) → z ≡ size_segment here
        → outside_in (decode_segments m (drop at s)) ≡ outside_in (here ∷ decode_segments (left - 1) (drop (p + z) s))
    opened z e = H.others ∙ ap outside_in (segments-at s p left z h e)

    pub held_found : {i : ℕ} {id : ℕ} → Some i ≡ outside_at here → id ≡ here.segment_id
        → Err (BucketOutsideSegment (record { 0 = id }) i) ≡ held_of (outside_in (decode_segments m (drop at s)))
    unfolding outside_in
    held_found {i} {id} e f = sym (ap held_of (opened (size_segment here) refl) ∙ rw (place_found place i e, ← f))

    pub held_next : None ≡ outside_at here → (z : ℕ) → z ≡ size_segment here → Held s at m (p + z) (left - 1)
    unfolding outside_in
    held_next e z f =
        record {
          rest = rest-next s p left z h f H.rest;
          others = opened z f ∙ rw (place_none place e);
        }
