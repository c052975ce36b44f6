-- Laws of the classes of bytes.
--
-- In order: the bytes of a class (`letter-bounds`, `digit-bounds`, `slash-byte`, `dash-byte`); the class of a byte (`class-digit`,
-- `class-letter`); the value of a hexadecimal digit by its class (`hex-digit`, `hex-letter`, `hex-other`), that it is below 16
-- (`hex-value-bound`), and that 16 stands for no digit (`hex-16`, `hex-not-16`).
-- Assumes nothing.
use Prim.Native.Nat.{ℕ, ◌-◌, ◌≤◌, ◌<◌}
use native.Mathlib.Omega.{arith}
use mathlib.Core.Path.{◌≡◌, refl}
use mathlib.Core.Bool.{Bool, true, false, cond, and-false, true≢false}
use lib.Dec.{leb, eqb}
use borrow.Author.Tests.{leb-true, le-leb, lt-leb, eqb-true, ne_eqb}
use Rattle.slice.specs.BoolLaws.{both_true}
use Rattle.name_parents.specs.Classes.{between, class_of, is_hex_digit}
use Rattle.name_digits.specs.Digits.{hex_digit_value, hex_digit_of}
use Rattle.slice.proofs.TestLaws.{cond-first, cond-second}

-- ---- the bytes of a class

between-bounds : (low high b : ℕ) → between low high b ≡ true → (low ≤ b) × (b ≤ high)
between-bounds low high b e =
    let p = both_true (leb low b) (leb b high) e in
    (leb-true low b p.0, leb-true b high p.1)

-- the classes that are tested behind digits and letters
marks : (t u v w : Bool) (n : ℕ) → cond t 3 (cond u 4 (cond v 5 (cond w 6 0))) ≡ n
    → (1 ≤ n → n ≤ 2 → ⊥) × (n ≡ 3 → t ≡ true) × (n ≡ 4 → u ≡ true)
marks true u v w n e = (λ h k. omega arith, λ q. refl, λ q. absurd (omega arith))
marks false true v w n e = (λ h k. omega arith, λ q. absurd (omega arith), λ q. refl)
marks false false true w n e = (λ h k. omega arith, λ q. absurd (omega arith), λ q. absurd (omega arith))
marks false false false true n e = (λ h k. omega arith, λ q. absurd (omega arith), λ q. absurd (omega arith))
marks false false false false n e = (λ h k. omega arith, λ q. absurd (omega arith), λ q. absurd (omega arith))

module _ (b : ℕ) where
  mark : (n : ℕ) → cond (eqb b 0x2F) 3 (cond (eqb b 0x2D) 4 (cond (eqb b 0x3F) 5 (cond (eqb b 0x23) 6 0))) ≡ n
      → (1 ≤ n → n ≤ 2 → ⊥) × (n ≡ 3 → eqb b 0x2F ≡ true) × (n ≡ 4 → eqb b 0x2D ≡ true)
  mark n = marks (eqb b 0x2F) (eqb b 0x2D) (eqb b 0x3F) (eqb b 0x23) n

  pub letter-bounds : class_of b ≡ 2 → (0x61 ≤ b) × (b ≤ 0x66)
  unfolding class_of
  letter-bounds e =
      let f = (cond-second (between 0x30 0x39 b) 1 _ 2 (λ q. omega arith) e).1 in
      let g = cond-first (between 0x61 0x66 b) 2 _ 2 (λ q. (mark 2 q).0 (omega arith) (omega arith)) f in
      between-bounds 0x61 0x66 b g.0

  pub digit-bounds : class_of b ≡ 1 → (0x30 ≤ b) × (b ≤ 0x39)
  unfolding class_of
  digit-bounds e =
      let p =
      cond-first (between 0x30 0x39 b) 1 _ 1
      (λ f. (mark 1 (cond-second (between 0x61 0x66 b) 2 _ 1 (λ q. omega arith) f).1).0 (omega arith) (omega arith)) e in
      between-bounds 0x30 0x39 b p.0

  -- a class behind digits and letters
  mark-told : (n : ℕ) → 3 ≤ n → class_of b ≡ n → (n ≡ 3 → eqb b 0x2F ≡ true) × (n ≡ 4 → eqb b 0x2D ≡ true)
  unfolding class_of
  mark-told n h e =
      let f = (cond-second (between 0x30 0x39 b) 1 _ n (λ q. omega arith) e).1 in
      let p = mark n (cond-second (between 0x61 0x66 b) 2 _ n (λ q. omega arith) f).1 in
      (p.1, p.2)

  pub slash-byte : class_of b ≡ 3 → b ≡ 0x2F
  slash-byte e = eqb-true b 0x2F ((mark-told 3 (omega arith) e).0 refl)

  pub dash-byte : class_of b ≡ 4 → b ≡ 0x2D
  dash-byte e = eqb-true b 0x2D ((mark-told 4 (omega arith) e).1 refl)

  -- ---- the class of a byte

  pub class-digit : 0x30 ≤ b → b ≤ 0x39 → class_of b ≡ 1
  unfolding class_of
  class-digit h k = rw (le-leb 0x30 b h, le-leb b 0x39 k)

  pub class-letter : 0x61 ≤ b → b ≤ 0x66 → class_of b ≡ 2
  unfolding class_of
  class-letter h k = rw (lt-leb b 0x39 (omega arith), and-false, le-leb 0x61 b h, le-leb b 0x66 k)

  -- ---- the value of a hexadecimal digit

  pub hex-digit : class_of b ≡ 1 → hex_digit_of b ≡ b - 0x30
  unfolding hex_digit_of
  hex-digit e = rw e

  pub hex-letter : class_of b ≡ 2 → hex_digit_of b ≡ b - 0x57
  unfolding hex_digit_of
  hex-letter e = rw e

  pub hex-other : (class_of b ≡ 1 → ⊥) → (class_of b ≡ 2 → ⊥) → hex_digit_of b ≡ 16
  unfolding hex_digit_of
  hex-other h k = rw (ne_eqb (class_of b) 1 h, ne_eqb (class_of b) 2 k)

  pub hex-value-bound : is_hex_digit b ≡ true → hex_digit_value b < 16
  hex-value-bound = go (eqb (class_of b) 1) refl (eqb (class_of b) 2) refl
    where
      go : (t : Bool) → eqb (class_of b) 1 ≡ t → (u : Bool) → eqb (class_of b) 2 ≡ u → is_hex_digit b ≡ true → hex_digit_value b < 16
      go true p u q e = rw p (omega (arith, digit-bounds (eqb-true (class_of b) 1 p)))
      go false p true q e = rw p (omega (arith, letter-bounds (eqb-true (class_of b) 2 q)))
      go false p false q e = absurd (true≢false (cc))

  pub hex-16 : hex_digit_of b ≡ 16 → is_hex_digit b ≡ false
  unfolding hex_digit_of
  hex-16 = go (is_hex_digit b) refl
    where
      go : (t : Bool) → is_hex_digit b ≡ t → cond t (hex_digit_value b) 16 ≡ 16 → t ≡ false
      go true p e = absurd (omega (arith, hex-value-bound p))
      go false p e = refl

  pub hex-not-16 : (hex_digit_of b ≡ 16 → ⊥) → (is_hex_digit b ≡ true) × (hex_digit_of b ≡ hex_digit_value b) × (hex_digit_of b < 16)
  unfolding hex_digit_of
  hex-not-16 = go (is_hex_digit b) refl
    where
      go : (t : Bool) → is_hex_digit b ≡ t → (cond t (hex_digit_value b) 16 ≡ 16 → ⊥)
          → (t ≡ true) × (cond t (hex_digit_value b) 16 ≡ hex_digit_value b) × (cond t (hex_digit_value b) 16 < 16)
      go true p h = (refl, refl, hex-value-bound p)
      go false p h = absurd (h refl)
