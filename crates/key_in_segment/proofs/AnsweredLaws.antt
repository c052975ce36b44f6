-- Every answer of `key_in_segment` means what 02 says (`answer-is`).
--
-- In order: the segment that is found is valid, and its range lies in the key space (`found-valid`, `found-fit`); where
-- no value is taken no bucket meets the range (`none-meets`); the answer by the least hash (`at-is`), by what is found
-- (`in_is`), and of a packed assignment.
-- Assumes nothing.
use Rattle.std.specs.Prelude.{Option, Some, None}
use Prim.Native.Nat.{ℕ, suc, ◌/◌, ◌%◌, ◌^◌, ◌≤◌, ◌<◌}
use native.Mathlib.Nat.{mod-eq_of_lt}
use native.Mathlib.Omega.{arith}
use mathlib.Core.Path.{◌≡◌, refl, sym, ap, ◌∙◌, subst}
use mathlib.Core.Bool.{Bool, true, false, ◌&&◌, ◌||◌, true≢false}
use mathlib.Core.List.{List, [], ◌∷◌}
use Rattle.std.proofs.lemmas.Option.{none-some, same_Some}
use lib.ListN.{length}
use lib.Dec.{leb, eqb}
use borrow.Author.Tests.{leb-true}
use Rattle.slice.specs.BoolLaws.{both_true}
use Rattle.topic_types.specs.declared.KeyRange.{KeyRange}
use Rattle.slice.proofs.PartLaws.{Bytes}
use Rattle.ranges.specs.Overlap.{overlap, overlaps_any}
use Rattle.ranges.specs.Meaning.{common}
use Rattle.ranges_calls.specs.Calls.{holds}
use Rattle.keyed.specs.Keyed.{find}
use Rattle.packed.specs.Assignment.{AssignedSegment, id_of, slot_size, decode_assignment, size_assignment, is_in_order, all_in_order}
use Rattle.packed.specs.Assignment.{ok_buckets, ok_segment, ok_from, ok_assignment, starts_assignment, is_assignment}
use Rattle.packed.proofs.AssignmentLaws.{ok-segment, ok-tail}
use Rattle.packed.proofs.RoundLaws.{FitSegment, FitSegments, fit-assignment}
use Rattle.key_murmur3.specs.Murmur3.{murmur3}
use Rattle.key_lookup.specs.Lookup.{key_hash, any_holds, takes}
use Rattle.key_for_hash.specs.Inverse.{key_bytes, key_for_hash}
use Rattle.key_for_hash.proofs.KeyLaws.{always-one}
use Rattle.key_in_segment.specs.Least.{least_taken, LeastValue, LeastOf}
use Rattle.key_in_segment.specs.SegmentKey.{key_at, key_in, key_in_segment}
use Rattle.key_in_segment.specs.Answered.{NoneFalls, Answered}
use Rattle.key_in_segment.proofs.LeastLaws.{least-taken, within-holds, start-taken, taken-within, taken-bucketed}

-- ---- the segment that is found

-- it is the first, or one of the others
found-by : (P : AssignedSegment → Type 0) (id : ℕ) (x : AssignedSegment) (gs : List AssignedSegment) (g : AssignedSegment) → P x
    → (find id_of id gs ≡ Some g → P g) → find id_of id (x ∷ gs) ≡ Some g → P g
found-by P id x gs g px rest e = go (eqb id x.segment_id) refl
  where
    go : (t : Bool) → eqb id x.segment_id ≡ t → P g
    go true h = subst P (same_Some x g (sym (rw h) ∙ e)) px
    go false h = rest (sym (rw h) ∙ e)

found-valid : (id low : ℕ) (gs : List AssignedSegment) (g : AssignedSegment) → ok_from low gs ≡ true → find id_of id gs ≡ Some g → ok_segment g ≡ true
found-valid id low [] g o e = absurd (none-some g e)
found-valid id low (x ∷ gs) g o e =
    found-by (λ (y : AssignedSegment). ok_segment y ≡ true) id x gs g (ok-segment low x gs o)
    (found-valid id (suc x.segment_id) gs g (ok-tail low x gs o)) e

found-fit : (id : ℕ) (gs : List AssignedSegment) (g : AssignedSegment) → FitSegments gs → find id_of id gs ≡ Some g → FitSegment g
found-fit id [] g f e = absurd (none-some g e)
found-fit id (x ∷ gs) g f e = found-by FitSegment id x gs g f.0 (found-fit id gs g f.1) e

-- ---- no bucket meets the range

and-or-false : (x y z : Bool) → (x && (y || z)) ≡ false → (x && z) ≡ false
and-or-false true true z e = absurd (true≢false e)
and-or-false true false z e = e
and-or-false false y z e = refl

none-meets : (r : KeyRange) (rs : List KeyRange) → r.start ≤ r.end → all_in_order rs ≡ true
    → ((v : ℕ) → (holds v r && any_holds v rs) ≡ false) → overlaps_any r rs ≡ false
unfolding overlaps_any any_holds all_in_order
none-meets r [] h o w = refl
none-meets r (b ∷ bs) h o w =
    go (none-meets r bs h (both_true (is_in_order b) _ o).1 (λ v. and-or-false (holds v r) (holds v b) (any_holds v bs) (w v))) (overlap b r) refl
  where
    go : overlaps_any r bs ≡ false → (t : Bool) → overlap b r ≡ t → (overlap b r || overlaps_any r bs) ≡ false
    go others true e =
        let m = common b r (leb-true b.start b.end (both_true (is_in_order b) _ o).0) h e in
        let f : (holds m.0 r && (holds m.0 b || any_holds m.0 bs)) ≡ true =
        rw (within-holds m.0 r m.2, within-holds m.0 b m.1) in
        absurd (true≢false (sym f ∙ w m.0))
    go others false e = rw e others

-- ---- the answers

module _ (gs : List AssignedSegment) (id : ℕ) (g : AssignedSegment) (e : find id_of id gs ≡ Some g) (ok : ok_segment g ≡ true) (fit : FitSegment g) where
  ordered : g.range.start ≤ g.range.end
  unfolding ok_segment
  ordered = leb-true g.range.start g.range.end (both_true (is_in_order g.range) _ ok).0

  none-falls : ((v : ℕ) → takes v g ≡ false) → NoneFalls g
  unfolding ok_segment ok_buckets
  none-falls w =
      let z : g.buckets ≡ [] → ⊥ = λ n. true≢false (sym (start-taken g n ordered) ∙ w g.range.start) in
      let o : all_in_order g.buckets ≡ true = (both_true (all_in_order g.buckets) _ (both_true (is_in_order g.range) _ ok).1).0 in
      record { bucketed = z; apart = none-meets g.range g.buckets ordered o (λ v. taken-bucketed g z v ∙ w v) }

  at-is : (x : Option ℕ) → LeastOf (λ v. takes v g) x → Answered gs id (key_at x)
  unfolding key_at
  at-is (Some v) w =
      let b : v ≤ g.range.end = (taken-within g v w.passes).high in
      let s : g.range.end < 256 ^ 2 = fit.range.end in
      let h : murmur3 (key_bytes (key_for_hash v)) ≡ v = (always-one v (omega arith)).has in
      let q : v ≡ key_hash (key_bytes (key_for_hash v)) = sym (ap (λ (n : ℕ). n % 2 ^ 16) h ∙ mod-eq_of_lt (omega arith)) in
      record {
        segment = g;
        found = e;
        upper = ap (λ (n : ℕ). n / 2 ^ 16) h ∙ omega arith;
        smallest = subst (λ (n : ℕ). LeastValue (λ u. takes u g) n) q w;
      }
  at-is None w = λ y f. subst NoneFalls (same_Some g y (sym e ∙ f)) (none-falls w)

in_is : (gs : List AssignedSegment) (id : ℕ) → ok_from 0 gs ≡ true → FitSegments gs → (o : Option AssignedSegment) → find id_of id gs ≡ o
    → Answered gs id (key_in o)
unfolding key_in
in_is gs id ok fit (Some g) e = at-is gs id g e (found-valid id 0 gs g ok e) (found-fit id gs g fit e) (least_taken g) (least-taken g)
in_is gs id ok fit None e = λ g f. absurd (none-some g (sym e ∙ f))

pub answer-is : (l : List ℕ) (id : ℕ) → Bytes l → is_assignment l ≡ true → Answered (decode_assignment l).segments id (key_in_segment l id)
unfolding key_in_segment is_assignment starts_assignment ok_assignment
answer-is l id b e =
    let s = both_true (starts_assignment l) _ e in
    let f = both_true (leb (size_assignment (decode_assignment l)) (length l)) _ s.0 in
    let o = both_true (leb (size_assignment (decode_assignment l)) slot_size) _ f.1 in
    rw e
    (in_is (decode_assignment l).segments id o.1 (fit-assignment l b).segments (find id_of id (decode_assignment l).segments) refl)
