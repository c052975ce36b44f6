-- Laws of tests, for reading a definition backwards: the side of a choice that its value is from (`cond-first`, `cond-second`).
-- Assumes nothing.
use mathlib.Core.Path.{◌≡◌, refl}
use mathlib.Core.Bool.{Bool, true, false, cond}

module _ {A : Type 0} (t : Bool) (x y z : A) where
  pub cond-first : (y ≡ z → ⊥) → cond t x y ≡ z → (t ≡ true) × (x ≡ z)
  cond-first = go t
    where
      go : (t : Bool) → (y ≡ z → ⊥) → cond t x y ≡ z → (t ≡ true) × (x ≡ z)
      go true h e = (refl, e)
      go false h e = absurd (h e)

  pub cond-second : (x ≡ z → ⊥) → cond t x y ≡ z → (t ≡ false) × (y ≡ z)
  cond-second = go t
    where
      go : (t : Bool) → (x ≡ z → ⊥) → cond t x y ≡ z → (t ≡ false) × (y ≡ z)
      go true h e = absurd (h e)
      go false h e = (refl, e)
