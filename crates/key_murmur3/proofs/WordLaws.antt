-- Laws of words of 32 bits: what the operations of src/ come to.
--
-- In order: a product of two words fits 64 bits (`product-below`); a rotation by two shifts (`rotate-shifts`).
-- Assumes nothing.
use Rattle.std.proofs.Common.{◌≡◌, ℕ, ◌+◌, ◌-◌, ◌*◌, ◌/◌, ◌%◌, ◌^◌, ◌<◌, ap, ◌∙◌, subst, ap₂, lt_of_le_of_lt, add-zero, le_of_lt, mul-le-mul_left, arith, shl_lt, shr_lt}
use native.Mathlib.Nat.{mul-mod_left}
use lib.Pow.{shl-shr, mod-pow-add}
use lib.Bits.{bit_or, or_shifted}
use Rattle.key_murmur3.specs.Words.{rotate_left}

pub product-below : (a b : ℕ) → a < 2 ^ 32 → b < 2 ^ 32 → a * b < 2 ^ 64
product-below a b ha hb = lt_of_le_of_lt (mul-le-mul_left a (le_of_lt hb)) (shl_lt 32 32 ha)

-- what is shifted up by r and cut to j + r bits
shifted_up : (x j r : ℕ) → (x * 2 ^ r) % 2 ^ (j + r) ≡ x % 2 ^ j * 2 ^ r
shifted_up x j r =
    mod-pow-add (x * 2 ^ r) j r
    ∙ ap₂ (λ (a b : ℕ). a % 2 ^ j * 2 ^ r + b) (shl-shr x r) (mul-mod_left x (2 ^ r))
    ∙ add-zero (x % 2 ^ j * 2 ^ r)

pub rotate-shifts : (x r : ℕ) → x < 2 ^ 32 → r < 32 → bit_or ((x * 2 ^ r) % 2 ^ 32) (x / 2 ^ (32 - r)) ≡ rotate_left x r
unfolding rotate_left
rotate-shifts x r hx hr =
    let e : 32 ≡ (32 - r) + r = omega arith in
    let f : 32 ≡ r + (32 - r) = omega arith in
    ap (λ (a : ℕ). bit_or a (x / 2 ^ (32 - r))) (ap (λ (w : ℕ). (x * 2 ^ r) % 2 ^ w) e ∙ shifted_up x (32 - r) r)
    ∙ or_shifted (x % 2 ^ (32 - r)) r (x / 2 ^ (32 - r)) (shr_lt r (32 - r) (subst (λ (w : ℕ). x < 2 ^ w) f hx))
