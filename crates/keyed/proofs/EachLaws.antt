-- A fact of each entry of a list (`Each` of `keyed`): of lists joined (`each_append`), the first of them (`each_take`), an entry inserted (`each-insert`), a list mapped (`each_map`);
-- of the entry at a place (`each_at`).
-- Assumes nothing.
use Prim.Native.Nat.{ℕ, zero, suc, ◌<◌}
use native.Mathlib.Omega.{arith}
use mathlib.Core.List.{List, [], ◌∷◌, ◌++◌, map}
use lib.ListN.{length, take, get_or}
use lib.Dec.{ltb, eqb}
use Rattle.keyed.specs.Keyed.{insert}
use Rattle.keyed.proofs.KeyedLaws.{choose}
pub use Rattle.keyed.specs.Each.{Each}

module _ {A : Type 0} (P : A → Type 0) where
  pub each_append : (xs ys : List A) → Each P xs → Each P ys → Each P (xs ++ ys)
  each_append [] ys f g = g
  each_append (x ∷ xs) ys f g = (f.0, each_append xs ys f.1 g)

  pub each_take : (n : ℕ) (xs : List A) → Each P xs → Each P (take n xs)
  each_take zero xs f = tt
  each_take (suc n) [] f = tt
  each_take (suc n) (x ∷ xs) f = (f.0, each_take n xs f.1)

  pub each_at : (d : A) (xs : List A) (i : ℕ) → i < length xs → Each P xs → P (get_or xs i d)
  each_at d [] i h f = absurd (omega arith)
  each_at d (x ∷ xs) zero h f = f.0
  each_at d (x ∷ xs) (suc i) h f = each_at d xs i (omega arith) f.1

  pub each-insert : (key : A → ℕ) (x : A) (ys : List A) → P x → Each P ys → Each P (insert key x ys)
  each-insert key x [] p f = (p, tt)
  each-insert key x (y ∷ ys) p f =
      choose (Each P) (ltb (key x) (key y)) (λ t. (p, f))
      (λ t. choose (Each P) (eqb (key x) (key y)) (λ u. (p, f.1)) (λ u. (f.0, each-insert key x ys p f.1)))

-- a fact of each entry gives another of what each is mapped to
pub each_map : {A B : Type 0} (P : A → Type 0) (Q : B → Type 0) (g : A → B) (f : (x : A) → P x → Q (g x)) (xs : List A)
    → Each P xs → Each Q (map g xs)
each_map P Q g f [] h = tt
each_map P Q g f (x ∷ xs) h = (f x h.0, each_map P Q g f xs h.1)
