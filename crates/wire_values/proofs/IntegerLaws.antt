-- Laws of `int32_of`: the low 32 bits below 2^31 are the number itself, those from 2^31 on a negative one.
--
-- In order: 0 - x - 1 as the program reckons it, with the facts that nothing wraps (`minus-fits`, `minus-one-fits`, `minus_one`); the two
-- halves (`int32-low`, `int32-high`).
-- Assumes nothing.
use Prim.Native.Nat.{ℕ, zero, suc, ◌+◌, ◌-◌, ◌%◌, ◌^◌, ◌≤◌, ◌<◌}
use native.Mathlib.Omega.{arith}
use mathlib.Core.Path.{◌≡◌, refl, sym, ap, subst, ◌∙◌}
use borrow.Author.Tests.{lt-ltb, le-ltb}
use lib.IntN.{ℤ, pos, negsuc, neg_ℤ, ◌-ℤ◌}
use mir.Syntax.{w32}
use mir.Val.{SFits, to_z, of_z}
use mir.Facts.{to_z_pos, to_z-of_z}
use Rattle.wire_values.specs.Integers.{int32_of}

zero_minus : (x : ℕ) → pos 0 -ℤ pos x ≡ neg_ℤ (pos x)
zero_minus zero = refl
zero_minus (suc m) = let e : suc m - 1 ≡ m = omega arith in rw (lt-ltb 0 (suc m) (omega arith), e)

less_one : (x : ℕ) → neg_ℤ (pos x) -ℤ pos 1 ≡ negsuc x
less_one zero = refl
less_one (suc m) = ap negsuc (let e : suc (m + 0) ≡ suc m = omega arith in e)

minus-small : (x : ℕ) → x < 2 ^ 31 → SFits w32 (neg_ℤ (pos x))
minus-small zero h = record { sfits = omega arith }
minus-small (suc m) h = record { sfits = omega arith }

module _ (x : ℕ) (h : x < 2 ^ 31) where
  minus_is : pos 0 -ℤ to_z w32 x ≡ neg_ℤ (pos x)
  minus_is = ap (λ (z : ℤ). pos 0 -ℤ z) (to_z_pos w32 h) ∙ zero_minus x

  pub minus-fits : SFits w32 (pos 0 -ℤ to_z w32 x)
  minus-fits = subst (SFits w32) (sym minus_is) (minus-small x h)

  minus_one_is : to_z w32 (of_z w32 (pos 0 -ℤ to_z w32 x)) -ℤ pos 1 ≡ negsuc x
  minus_one_is = ap (λ (z : ℤ). z -ℤ pos 1) (to_z-of_z minus-fits ∙ minus_is) ∙ less_one x

  pub minus-one-fits : SFits w32 (to_z w32 (of_z w32 (pos 0 -ℤ to_z w32 x)) -ℤ pos 1)
  minus-one-fits = subst (SFits w32) (sym minus_one_is) (record { sfits = h })

  pub minus_one : to_z w32 (of_z w32 (to_z w32 (of_z w32 (pos 0 -ℤ to_z w32 x)) -ℤ pos 1)) ≡ negsuc x
  minus_one = to_z-of_z minus-one-fits ∙ minus_one_is

pub int32-low : (v : ℕ) → v % 2 ^ 32 < 2 ^ 31 → to_z w32 (v % 2 ^ 32) ≡ int32_of v
unfolding int32_of
int32-low v h = to_z_pos w32 h ∙ sym (rw (lt-ltb (v % 2 ^ 32) (2 ^ 31) h))

pub int32-high : (v : ℕ) → 2 ^ 31 ≤ v % 2 ^ 32 → negsuc (2 ^ 32 - 1 - v % 2 ^ 32) ≡ int32_of v
unfolding int32_of
int32-high v h = sym (rw (le-ltb (v % 2 ^ 32) (2 ^ 31) h))
