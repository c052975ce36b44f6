-- A step of the merge, over records whose ids rise: what the answer of `next_step` says of the records that the other list has not.
--
-- In order: records with different ids (`ids-differ`); the answer where records are left (`step-at`, `step-below`, `step-above`, `step-first`); an id below a list is
-- not in it (`has_above`), and takes nothing away (`without-below`); the three answers (`skip-some`, `skip_step`, `same_step`, `keep-step`).
-- Assumes nothing.
use Prim.Native.Nat.{ℕ, suc, ◌≤◌, ◌<◌}
use native.Mathlib.Omega.{arith}
use mathlib.Core.Path.{◌≡◌, refl, sym, ap, ◌∙◌}
use mathlib.Core.Bool.{Bool, true, false, cond}
use mathlib.Core.List.{List, [], ◌∷◌}
use lib.ListN.{length, drop}
use lib.Dec.{ltb}
use borrow.Author.Tests.{lt-ltb, le-ltb, ltb-true, ltb-false, le-leb, ne_eqb}
use Rattle.packed.specs.Assignment.{AssignedSegment, decode_segment, decode_segments, ok_from}
use Rattle.packed.specs.Equal.{same_segment}
use Rattle.packed.proofs.AssignmentLaws.{ok-segment, ok-head, ok-tail, segments-at}
use Rattle.packed_delta.specs.Change.{has_same, without}
use Rattle.packed_diff.specs.Merge.{merge_step}
use Rattle.packed_diff.specs.declared.Step.TheVariants.{Keep, Same, Skip}

-- ---- the answer where records are left

-- records with different ids differ
ids-differ : (g h : AssignedSegment) → (g.segment_id ≡ h.segment_id → ⊥) → same_segment g h ≡ false
unfolding same_segment
ids-differ g h k = simp (ne_eqb g.segment_id h.segment_id k)

module _ (g : AssignedSegment) (y : List ℕ) (q n : ℕ) (h : 0 < n) where
  step-at : merge_step g (decode_segments n (drop q y))
      ≡ cond (ltb (decode_segment (drop q y)).segment_id g.segment_id) Skip (cond (same_segment g (decode_segment (drop q y))) Same Keep)
  unfolding merge_step
  step-at = ap (merge_step g) (segments-at y q n _ h refl)

  pub step-below : (decode_segment (drop q y)).segment_id < g.segment_id → Skip ≡ merge_step g (decode_segments n (drop q y))
  step-below k = sym (step-at ∙ simp (lt-ltb _ _ k))

  pub step-above : g.segment_id < (decode_segment (drop q y)).segment_id → Keep ≡ merge_step g (decode_segments n (drop q y))
  step-above k =
      let h : g.segment_id ≤ (decode_segment (drop q y)).segment_id = omega arith in
      sym (step-at ∙ simp (le-ltb _ _ h, ids-differ g (decode_segment (drop q y)) (λ e. absurd (omega arith))))

  pub step-first : (t : Bool) → g.segment_id ≤ (decode_segment (drop q y)).segment_id → same_segment g (decode_segment (drop q y)) ≡ t
      → cond t Same Keep ≡ merge_step g (decode_segments n (drop q y))
  step-first t k e = sym (step-at ∙ simp (le-ltb _ _ k, e))

-- ---- ids below a list's

has_above : (low : ℕ) (hs : List AssignedSegment) (g : AssignedSegment) → ok_from low hs ≡ true → g.segment_id < low
    → has_same hs g ≡ false
unfolding has_same
has_above low [] g e k = refl
has_above low (h ∷ hs) g e k =
    let a : low ≤ h.segment_id = ok-head low h hs e in
    simp (ids-differ g h (λ p. omega arith), has_above (suc h.segment_id) hs g (ok-tail low h hs e) (omega arith))

without-below : (low : ℕ) (gs : List AssignedSegment) (h : AssignedSegment) (hs : List AssignedSegment) → ok_from low gs ≡ true
    → h.segment_id < low → without gs (h ∷ hs) ≡ without gs hs
unfolding without has_same
without-below low [] h hs e k = refl
without-below low (g ∷ gs) h hs e k =
    let a : low ≤ g.segment_id = ok-head low g gs e in
    simp (ids-differ g h (λ p. omega arith), without-below (suc g.segment_id) gs h hs (ok-tail low g gs e) (omega arith))

-- ids that rise from some number on rise from the first on
ok-from-first : (low : ℕ) (g : AssignedSegment) (gs : List AssignedSegment) → ok_from low (g ∷ gs) ≡ true
    → ok_from g.segment_id (g ∷ gs) ≡ true
unfolding ok_from
ok-from-first low g gs e = simp (ok-segment low g gs e, le-leb g.segment_id g.segment_id (omega arith), ok-tail low g gs e)

-- ---- the three answers

-- two answers that are not the same
apart : {A : Type 0} → ◌≡◌ {A = ℕ} 0 1 → A
apart z = absurd (omega arith)

skip-told : (t u : Bool) → Skip ≡ cond t Skip (cond u Same Keep) → t ≡ true
skip-told true u e = refl
skip-told false true e = apart cc
skip-told false false e = apart cc

same-told : (t u : Bool) → Same ≡ cond t Skip (cond u Same Keep) → u ≡ true
same-told true u e = apart cc
same-told false true e = refl
same-told false false e = apart cc

keep-told : (t u : Bool) → Keep ≡ cond t Skip (cond u Same Keep) → (t ≡ false) × (u ≡ false)
keep-told true u e = apart cc
keep-told false true e = apart cc
keep-told false false e = (refl, refl)

module _ (g : AssignedSegment) where
  pub skip-some : (hs : List AssignedSegment) → Skip ≡ merge_step g hs → 0 < length hs
  unfolding merge_step
  skip-some [] e = apart cc
  skip-some (h ∷ hs) e = omega arith

  pub skip_step : (gs : List AssignedSegment) (h : AssignedSegment) (hs : List AssignedSegment) → ok_from 0 (g ∷ gs) ≡ true
      → Skip ≡ merge_step g (h ∷ hs) → without (g ∷ gs) (h ∷ hs) ≡ without (g ∷ gs) hs
  unfolding merge_step
  skip_step gs h hs o e =
      let t : ltb h.segment_id g.segment_id ≡ true = skip-told (ltb h.segment_id g.segment_id) (same_segment g h) e in
      without-below g.segment_id (g ∷ gs) h hs (ok-from-first 0 g gs o) (ltb-true h.segment_id g.segment_id t)

  pub same_step : (gs hs : List AssignedSegment) → Same ≡ merge_step g hs → without (g ∷ gs) hs ≡ without gs hs
  unfolding merge_step has_same without
  same_step gs [] e = apart cc
  same_step gs (h ∷ hs) e = simp (same-told (ltb h.segment_id g.segment_id) (same_segment g h) e)

  pub keep-step : (gs hs : List AssignedSegment) → ok_from 0 hs ≡ true → Keep ≡ merge_step g hs → without (g ∷ gs) hs ≡ g ∷ without gs hs
  unfolding merge_step has_same without
  keep-step gs [] o e = refl
  keep-step gs (h ∷ hs) o e =
      let k = keep-told (ltb h.segment_id g.segment_id) (same_segment g h) e in
      let a : g.segment_id ≤ h.segment_id = ltb-false h.segment_id g.segment_id k.0 in
      simp (k.1, has_above (suc h.segment_id) hs g (ok-tail 0 h hs o) (omega arith))
