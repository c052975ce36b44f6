-- Laws of a row: values that stand in bytes one behind the other, so many of them.
--
-- `Row` says that a definition reads such a row, whatever the values are and however long. In order: no value (`row-none`); the first one at a place, and the
-- others (`row_at`); how many there are (`length-row`); a row's front (`take_row`).
-- Assumes nothing.
use Prim.Native.Nat.{ℕ, zero, suc, ◌+◌, ◌-◌, ◌≤◌, ◌<◌}
use native.Mathlib.Nat.{not-suc-le-zero}
use native.Mathlib.Omega.{arith}
use mathlib.Core.Path.{◌≡◌, sym, ap, ◌∙◌}
use mathlib.Core.List.{List, [], ◌∷◌}
use lib.ListN.{length, take, drop}
use lib.Seq.{drop-drop}

-- `row n l` are the first n values of the bytes l: each is what `value` reads, and has the size that `size` says
pub record Row {A : Type 0} (size : List ℕ → ℕ) (value : List ℕ → A) (row : ℕ → List ℕ → List A) : Type 0 where
  pub none : (l : List ℕ) → row 0 l ≡ []
  pub more : (n : ℕ) (l : List ℕ) → row (suc n) l ≡ value l ∷ row n (drop (size l) l)

module _ {A : Type 0} {size : List ℕ → ℕ} {value : List ℕ → A} {row : ℕ → List ℕ → List A} (r : Row size value row) where
  pub row-none : (n : ℕ) (l : List ℕ) → n ≤ 0 → row n l ≡ []
  row-none n l h = let e : n ≡ 0 = omega arith in ap (λ (k : ℕ). row k l) e ∙ r.none l

  pub row_at : (s : List ℕ) (p n : ℕ) (x : A) (z : ℕ) → 0 < n → x ≡ value (drop p s) → z ≡ size (drop p s)
      → row n (drop p s) ≡ x ∷ row (n - 1) (drop (p + z) s)
  row_at s p n x z h e f =
      let g : n ≡ suc (n - 1) = omega arith in
      ap (λ (k : ℕ). row k (drop p s)) g
      ∙ r.more (n - 1) (drop p s)
      ∙ ap (λ (y : A). y ∷ row (n - 1) (drop (size (drop p s)) (drop p s))) (sym e)
      ∙ ap (λ (k : ℕ). x ∷ row (n - 1) (drop k (drop p s))) (sym f)
      ∙ ap (λ (l : List ℕ). x ∷ row (n - 1) l) (drop-drop z p s)

  pub length-row : (n : ℕ) (l : List ℕ) → length (row n l) ≡ n
  length-row zero l = ap length (r.none l)
  length-row (suc n) l = ap length (r.more n l) ∙ ap suc (length-row n (drop (size l) l))

  pub take_row : (k n : ℕ) (l : List ℕ) → k ≤ n → take k (row n l) ≡ row k l
  take_row zero n l h = sym (r.none l)
  take_row (suc k) zero l h = absurd (not-suc-le-zero h)
  take_row (suc k) (suc n) l h =
      ap (take (suc k)) (r.more n l)
      ∙ ap (λ (t : List A). value l ∷ t) (take_row k n (drop (size l) l) (omega arith))
      ∙ sym (r.more k l)
