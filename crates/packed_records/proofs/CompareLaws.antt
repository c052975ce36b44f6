-- Records and packed assignments compared as bytes, and the size of a packed assignment.
--
-- In order: the records at the fronts of two lists (`records-same`, `sizes-differ`); the packed assignments there (`starts-fits`,
-- `assignments-short`, `assignments-same`); a walk that adds the sizes of the records (`Sized`: `sized-start`, `sized-next`, `sized-end`).
-- Assumes nothing.
use Prim.Native.Nat.{ℕ, ◌+◌, ◌-◌, ◌≤◌, ◌<◌}
use native.Mathlib.Nat.{add-zero}
use native.Mathlib.Omega.{arith}
use mathlib.Core.Path.{◌≡◌, refl, sym, ap, ◌∙◌}
use mathlib.Core.Bool.{Bool, true, false}
use mathlib.Core.List.{List, ◌++◌}
use lib.ListN.{length, take, drop, take-append-drop}
use lib.Dec.{leb}
use borrow.Author.Tests.{leb-true}
use Rattle.slice.specs.BoolLaws.{both_true}
use Rattle.slice.specs.Same.{same_bytes}
use Rattle.slice.proofs.PartLaws.{Bytes}
use Rattle.slice.proofs.SameLaws.{same_refl, same-eq}
use Rattle.slice_int.specs.Be.{be_at}
use Rattle.packed.specs.Assignment.{AssignedSegment, decode_segment, decode_segments, decode_assignment, encode_segment, encode_assignment}
use Rattle.packed.specs.Assignment.{size_segment, size_segments, size_assignment, starts_assignment}
use Rattle.packed.specs.Equal.{same_segment, same_assignment}
use Rattle.packed.proofs.AssignmentLaws.{Rest, rest-start, rest-next, size-turn, first-segments}
use Rattle.packed.proofs.RoundLaws.{write-segment, segment-same, write-assignment, read-assignment, fit-assignment}
use Rattle.packed.proofs.EqualLaws.{segment-refl, segment-eq, assignment-refl, assignment-eq}

-- two tests of which each follows from the other
alike : (s t : Bool) → (s ≡ true → t ≡ true) → (t ≡ true → s ≡ true) → s ≡ t
alike true t f g = sym (f refl)
alike false true f g = g refl
alike false false f g = refl

-- a test that is not true
refused : (t : Bool) → (t ≡ true → ⊥) → t ≡ false
refused true f = absurd (f refl)
refused false f = refl

-- ---- records

pub records-same : (l m : List ℕ) (z : ℕ) → Bytes l → Bytes m → z ≡ size_segment (decode_segment l) → z ≡ size_segment (decode_segment m)
    → z ≤ length l → z ≤ length m → same_bytes (take z l) (take z m) ≡ same_segment (decode_segment l) (decode_segment m)
records-same l m z bl bm el em hl hm = alike (same_bytes (take z l) (take z m)) (same_segment (decode_segment l) (decode_segment m)) to from
  where
    kl : size_segment (decode_segment l) ≤ length l
    kl = omega arith

    km : size_segment (decode_segment m) ≤ length m
    km = omega arith

    wl : take z l ≡ take (size_segment (decode_segment l)) l
    wl = ap (λ (k : ℕ). take k l) el

    wm : take z m ≡ take (size_segment (decode_segment m)) m
    wm = ap (λ (k : ℕ). take k m) em

    to : same_bytes (take z l) (take z m) ≡ true → same_segment (decode_segment l) (decode_segment m) ≡ true
    to e =
        let g : decode_segment l ≡ decode_segment m = segment-same l m bl bm kl km (sym wl ∙ same-eq (take z l) (take z m) e ∙ wm) in
        ap (same_segment (decode_segment l)) (sym g) ∙ segment-refl (decode_segment l)

    from : same_segment (decode_segment l) (decode_segment m) ≡ true → same_bytes (take z l) (take z m) ≡ true
    from e =
        let g : take z l ≡ take z m =
        wl ∙ sym (write-segment l kl bl) ∙ ap encode_segment (segment-eq (decode_segment l) (decode_segment m) e) ∙ write-segment m km bm ∙ sym wm in
        ap (same_bytes (take z l)) (sym g) ∙ same_refl (take z l)

pub sizes-differ : (g h : AssignedSegment) → (size_segment g ≡ size_segment h → ⊥) → same_segment g h ≡ false
sizes-differ g h f = refused (same_segment g h) (λ e. f (ap size_segment (segment-eq g h e)))

-- ---- packed assignments

pub starts-fits : (s : List ℕ) → starts_assignment s ≡ true → size_assignment (decode_assignment s) ≤ length s
unfolding starts_assignment
starts-fits s e = leb-true _ _ (both_true (leb (size_assignment (decode_assignment s)) (length s)) _ e).0

module _ (x y : List ℕ) (z : ℕ) (hx : size_assignment (decode_assignment x) ≤ length x) (ez : z ≡ size_assignment (decode_assignment y)) where
  -- the second is longer than all the bytes of the first
  pub assignments-short : length x < z → same_assignment (decode_assignment x) (decode_assignment y) ≡ false
  assignments-short h =
      refused (same_assignment (decode_assignment x) (decode_assignment y))
      (λ e. let q : decode_assignment x ≡ decode_assignment y = assignment-eq (decode_assignment x) (decode_assignment y) e in omega (arith, ap size_assignment q))

  pub assignments-same : Bytes x → Bytes y → z ≤ length y → same_bytes (take z x) (take z y) ≡ same_assignment (decode_assignment x) (decode_assignment y)
  assignments-same bx by hy = alike (same_bytes (take z x) (take z y)) (same_assignment (decode_assignment x) (decode_assignment y)) to from
    where
      wy : take z y ≡ encode_assignment (decode_assignment y)
      wy = ap (λ (k : ℕ). take k y) ez ∙ sym (write-assignment y (omega arith) by)

      to : same_bytes (take z x) (take z y) ≡ true → same_assignment (decode_assignment x) (decode_assignment y) ≡ true
      to e =
          let f : x ≡ encode_assignment (decode_assignment y) ++ drop z x =
          sym (take-append-drop z x) ∙ ap (λ (l : List ℕ). l ++ drop z x) (same-eq (take z x) (take z y) e ∙ wy) in
          let g : decode_assignment x ≡ decode_assignment y = ap decode_assignment f ∙ read-assignment (decode_assignment y) (drop z x) (fit-assignment y by) in
          ap (same_assignment (decode_assignment x)) (sym g) ∙ assignment-refl (decode_assignment x)

      from : same_assignment (decode_assignment x) (decode_assignment y) ≡ true → same_bytes (take z x) (take z y) ≡ true
      from e =
          let q : decode_assignment x ≡ decode_assignment y = assignment-eq (decode_assignment x) (decode_assignment y) e in
          let n : z ≡ size_assignment (decode_assignment x) = ez ∙ ap size_assignment (sym q) in
          let g : take z x ≡ take z y =
          ap (λ (k : ℕ). take k x) n ∙ sym (write-assignment x hx bx) ∙ ap encode_assignment q ∙ sym wy in
          ap (same_bytes (take z x)) (sym g) ∙ same_refl (take z x)

-- ---- the sizes added up

-- at the place p, with so many records left: they stand there, and end where the packed assignment ends
pub record Sized (s : List ℕ) (left p : ℕ) : Type 0 where
  pub rest : Rest s p left
  pub sum : size_assignment (decode_assignment s) ≡ p + size_segments (decode_segments left (drop p s))

pub sized-start : (s : List ℕ) (n : ℕ) → starts_assignment s ≡ true → n ≡ be_at 2 s 8 → Sized s n 10
unfolding size_assignment
sized-start s n h e =
    record { rest = rest-start s n h e; sum = ap (λ (l : List AssignedSegment). 10 + size_segments l) (first-segments s n e) }

module _ (s : List ℕ) (left p : ℕ) (v : Sized s left p) where
  pub sized-next : (z : ℕ) → 0 < left → z ≡ size_segment (decode_segment (drop p s)) → Sized s (left - 1) (p + z)
  sized-next z h e = record { rest = rest-next s p left z h e v.rest; sum = v.sum ∙ size-turn s p left z h e }

  pub sized-end : left ≤ 0 → p ≡ size_assignment (decode_assignment s)
  unfolding decode_segments size_segments
  sized-end h =
      let e : left ≡ 0 = omega arith in
      sym (v.sum ∙ ap (λ (n : ℕ). p + size_segments (decode_segments n (drop p s))) e ∙ add-zero p)
