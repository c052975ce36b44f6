-- Laws of bytes that are compared as one number: w bytes at a place are those of p where both are the same number (`word_same`), and others
-- where not (`word-other`).
-- Assumes nothing.
use Prim.Native.Nat.{ℕ, ◌+◌, ◌≤◌}
use native.Mathlib.Omega.{arith}
use mathlib.Core.Path.{◌≡◌, refl, sym, ap, ◌∙◌}
use mathlib.Core.Bool.{Bool, true, false}
use mathlib.Core.List.{List}
use lib.ListN.{length, take, drop, length-drop}
use Rattle.slice.specs.Same.{same_bytes}
use Rattle.slice.proofs.PartLaws.{Bytes, Bytes-drop}
use Rattle.slice.proofs.SameLaws.{same_refl, same-eq}
use Rattle.slice_int.specs.Be.{be, be_at, bytes_of}
use Rattle.slice_int.proofs.BeLaws.{bytes_of-front}

module _ (w v at : ℕ) (s p : List ℕ) where
  pub word_same : at + w ≤ length s → Bytes s → bytes_of w v ≡ p → be_at w s at ≡ v → same_bytes (take w (drop at s)) p ≡ true
  unfolding be_at
  word_same h b f e =
      let t : take w (drop at s) ≡ p = sym (bytes_of-front w (drop at s) (omega (arith, length-drop at s)) (Bytes-drop at s b)) ∙ ap (bytes_of w) e ∙ f in
      rw t (same_refl p)

  pub word-other : be p ≡ v → (be_at w s at ≡ v → ⊥) → same_bytes (take w (drop at s)) p ≡ false
  unfolding be_at
  word-other f e = go (same_bytes (take w (drop at s)) p) refl
    where
      go : (t : Bool) → same_bytes (take w (drop at s)) p ≡ t → t ≡ false
      go true k = absurd (e (ap be (same-eq (take w (drop at s)) p k) ∙ f))
      go false k = refl
