-- Equality field by field is equality of values: each `same` test is true of equals (`-refl`), and of nothing else (`-eq`).
-- Assumes nothing.
use mathlib.Core.Path.{◌≡◌, refl, ap₂}
use mathlib.Core.Bool.{true, false≢true}
use mathlib.Core.List.{List, [], ◌∷◌}
use lib.Dec.{eqb}
use borrow.Author.Tests.{eqb-true, eq-eqb}
use Rattle.slice.specs.BoolLaws.{both, both_true}
use Rattle.topic_types.specs.declared.KeyRange.{KeyRange}
use Rattle.packed.specs.Assignment.{AssignedSegment, ConsumerAssignment}
use Rattle.packed.specs.Equal.{same_range, same_ranges, same_segment, same_segments, same_assignment}

range-refl : (q : KeyRange) → same_range q q ≡ true
range-refl q = both (eqb q.start q.start) _ (eq-eqb q.start q.start refl) (eq-eqb q.end q.end refl)

range-eq : (q r : KeyRange) → same_range q r ≡ true → q ≡ r
range-eq q r e =
    let p = both_true (eqb q.start r.start) _ e in
    let s : q.start ≡ r.start = eqb-true q.start r.start p.0 in
    let t : q.end ≡ r.end = eqb-true q.end r.end p.1 in
    λ i. record { start = s i; end = t i }

pub ranges-refl : (rs : List KeyRange) → same_ranges rs rs ≡ true
unfolding same_ranges
ranges-refl [] = refl
ranges-refl (r ∷ rs) = both (same_range r r) _ (range-refl r) (ranges-refl rs)

pub ranges-eq : (qs rs : List KeyRange) → same_ranges qs rs ≡ true → qs ≡ rs
unfolding same_ranges
ranges-eq [] [] e = refl
ranges-eq [] (r ∷ rs) e = absurd (false≢true e)
ranges-eq (q ∷ qs) [] e = absurd (false≢true e)
ranges-eq (q ∷ qs) (r ∷ rs) e = let p = both_true (same_range q r) _ e in ap₂ ◌∷◌ (range-eq q r p.0) (ranges-eq qs rs p.1)

pub segment-refl : (g : AssignedSegment) → same_segment g g ≡ true
unfolding same_segment
segment-refl g =
    both (eqb g.segment_id g.segment_id) _ (eq-eqb g.segment_id g.segment_id refl)
    (both (same_range g.range g.range) _ (range-refl g.range) (ranges-refl g.buckets))

pub segment-eq : (g h : AssignedSegment) → same_segment g h ≡ true → g ≡ h
unfolding same_segment
segment-eq g h e =
    let p = both_true (eqb g.segment_id h.segment_id) _ e in
    let q = both_true (same_range g.range h.range) _ p.1 in
    let i : g.segment_id ≡ h.segment_id = eqb-true g.segment_id h.segment_id p.0 in
    let r : g.range ≡ h.range = range-eq g.range h.range q.0 in
    let b : g.buckets ≡ h.buckets = ranges-eq g.buckets h.buckets q.1 in
    λ j. record { segment_id = i j; range = r j; buckets = b j }

pub segments-refl : (gs : List AssignedSegment) → same_segments gs gs ≡ true
unfolding same_segments
segments-refl [] = refl
segments-refl (g ∷ gs) = both (same_segment g g) _ (segment-refl g) (segments-refl gs)

pub segments-eq : (gs hs : List AssignedSegment) → same_segments gs hs ≡ true → gs ≡ hs
unfolding same_segments
segments-eq [] [] e = refl
segments-eq [] (h ∷ hs) e = absurd (false≢true e)
segments-eq (g ∷ gs) [] e = absurd (false≢true e)
segments-eq (g ∷ gs) (h ∷ hs) e = let p = both_true (same_segment g h) _ e in ap₂ ◌∷◌ (segment-eq g h p.0) (segments-eq gs hs p.1)

pub assignment-refl : (a : ConsumerAssignment) → same_assignment a a ≡ true
unfolding same_assignment
assignment-refl a = both (eqb a.layout_epoch a.layout_epoch) _ (eq-eqb a.layout_epoch a.layout_epoch refl) (segments-refl a.segments)

pub assignment-eq : (a b : ConsumerAssignment) → same_assignment a b ≡ true → a ≡ b
unfolding same_assignment
assignment-eq a b e =
    let p = both_true (eqb a.layout_epoch b.layout_epoch) _ e in
    let i : a.layout_epoch ≡ b.layout_epoch = eqb-true a.layout_epoch b.layout_epoch p.0 in
    let s : a.segments ≡ b.segments = segments-eq a.segments b.segments p.1 in
    λ j. record { layout_epoch = i j; segments = s j }
