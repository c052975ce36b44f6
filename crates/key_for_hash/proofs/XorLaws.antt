-- Laws of `xor`, and of `x ^ (x >> k)` and its inverse.
--
-- In order: `xor` undone (`xor-again`), shifted (`xor-down`) and bounded (`xor-word`); `xor_shift` and `undo_shift` undo
-- each other wherever three shifts leave nothing (`shift_back`, `shift-forth`).
-- Assumes nothing.
use Rattle.std.proofs.Common.{◌≡◌, ℕ, zero, suc, ◌+◌, ◌*◌, ◌/◌, ◌%◌, ◌^◌, ◌<◌, refl, ap, ◌∙◌, ap₂, mod-lt, div-add-mod', arith, lit<}
use lib.Arith.{bin_ind, digits_div, digits_mod}
use lib.Bits.{bit_xor, differ, xor_step, xor_zero_l, xor_zero_r, xor_lt, xor_shr}
use Rattle.key_murmur3.specs.Words.{xor, xor_shift}
use Rattle.key_for_hash.specs.Inverse.{undo_shift}

-- ---- xor

xor-none : (a : ℕ) → xor a 0 ≡ a
unfolding xor
xor-none a = xor_zero_r a

pub xor-none-l : (a : ℕ) → xor 0 a ≡ a
unfolding xor
xor-none-l a = xor_zero_l a

-- two digits
differ-again : (x y : ℕ) → x < 2 → y < 2 → differ (differ x y) y ≡ x
differ-again zero zero p q = refl
differ-again zero (suc zero) p q = refl
differ-again (suc zero) zero p q = refl
differ-again (suc zero) (suc zero) p q = refl
differ-again zero (suc (suc y)) p q = absurd (omega arith)
differ-again (suc zero) (suc (suc y)) p q = absurd (omega arith)
differ-again (suc (suc x)) y p q = absurd (omega arith)

differ-digit : (x y : ℕ) → x < 2 → y < 2 → differ x y < 2
differ-digit zero y p q = q
differ-digit (suc zero) zero p q = p
differ-digit (suc zero) (suc zero) p q = lit< tt
differ-digit (suc zero) (suc (suc y)) p q = absurd (omega arith)
differ-digit (suc (suc x)) y p q = absurd (omega arith)

again-step : (b a : ℕ) → bit_xor (bit_xor (a / 2) (b / 2)) (b / 2) ≡ a / 2 → bit_xor (bit_xor a b) b ≡ a
again-step b a ih =
    let x : a % 2 < 2 = mod-lt a (lit< tt) in
    let y : b % 2 < 2 = mod-lt b (lit< tt) in
    let s : bit_xor a b ≡ bit_xor (a / 2) (b / 2) * 2 + differ (a % 2) (b % 2) = xor_step a b in
    let d : differ (a % 2) (b % 2) < 2 = differ-digit (a % 2) (b % 2) x y in
    let h : bit_xor a b / 2 ≡ bit_xor (a / 2) (b / 2) = ap (λ (n : ℕ). n / 2) s ∙ digits_div (bit_xor (a / 2) (b / 2)) d in
    let l : bit_xor a b % 2 ≡ differ (a % 2) (b % 2) = ap (λ (n : ℕ). n % 2) s ∙ digits_mod (bit_xor (a / 2) (b / 2)) d in
    xor_step (bit_xor a b) b
    ∙ ap₂ (λ (m n : ℕ). bit_xor m (b / 2) * 2 + differ n (b % 2)) h l
    ∙ ap₂ (λ (m n : ℕ). m * 2 + n) ih (differ-again (a % 2) (b % 2) x y)
    ∙ div-add-mod' a 2

-- done twice, b is gone
pub xor-again : (a b : ℕ) → xor (xor a b) b ≡ a
unfolding xor
xor-again a b =
    bin_ind (λ (n : ℕ). (m : ℕ) → bit_xor (bit_xor m n) n ≡ m) (λ m. xor_zero_r (bit_xor m 0) ∙ xor_zero_r m)
    (λ n ih m. again-step n m (ih (m / 2))) b a

xor-down : (a b k : ℕ) → xor a b / 2 ^ k ≡ xor (a / 2 ^ k) (b / 2 ^ k)
unfolding xor
xor-down a b k = xor_shr a b k

pub xor-word : (a b : ℕ) → a < 2 ^ 32 → b < 2 ^ 32 → xor a b < 2 ^ 32
unfolding xor
xor-word a b p q = xor_lt 32 a b p q

-- ---- x ^ (x >> k)

module _ (x k : ℕ) (z : x / 2 ^ k / 2 ^ k / 2 ^ k ≡ 0) where
  abbrev a : ℕ
  a = x / 2 ^ k

  abbrev b : ℕ
  b = a / 2 ^ k

  -- both shifted by k: the second gives nothing further
  twice : xor a b / 2 ^ k ≡ b
  twice = xor-down a b k ∙ ap (xor b) z ∙ xor-none b

  pub shift_back : undo_shift (xor_shift x k) k ≡ x
  unfolding undo_shift xor_shift
  shift_back =
      let e : xor (xor x a) (xor x a / 2 ^ k) / 2 ^ k ≡ a =
      xor-down (xor x a) (xor x a / 2 ^ k) k
      ∙ ap (λ (n : ℕ). xor n (n / 2 ^ k)) (xor-down x a k)
      ∙ ap (xor (xor a b)) twice
      ∙ xor-again a b in
      ap (xor (xor x a)) e ∙ xor-again x a

  pub shift-forth : xor_shift (undo_shift x k) k ≡ x
  unfolding undo_shift xor_shift
  shift-forth =
      let e : xor x a / 2 ^ k ≡ xor a b = xor-down x a k in
      let f : xor x (xor x a / 2 ^ k) / 2 ^ k ≡ xor a b =
      ap (λ (n : ℕ). xor x n / 2 ^ k) e ∙ xor-down x (xor a b) k ∙ ap (xor a) twice in
      ap₂ xor (ap (xor x) e) f ∙ xor-again x (xor a b)
