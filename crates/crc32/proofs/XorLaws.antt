-- Laws of `xor` besides those of crates/key_for_hash: its order and grouping, its parts, and when it is 0.
--
-- In order: grouping (`xor_assoc`) and exchange (`xor_comm`); halves and lowest bits (`xor-half`, `xor-odd`); a number cut in two (`xor-cut`);
-- a xor that is 0 (`xor_same`, `xor-zero`).
-- Assumes nothing.
use Prim.Native.Nat.{ℕ, zero, suc, ◌+◌, ◌*◌, ◌/◌, ◌%◌, ◌<◌}
use native.Mathlib.Nat.{mod-lt, div-add-mod'}
use native.Mathlib.Omega.{arith}
use mathlib.Core.Path.{◌≡◌, refl, sym, ap, ap₂, ◌∙◌}
use lib.Arith.{bin_ind, digits_div, digits_mod}
use lib.Dec.{lit<}
use lib.Bits as bits
use lib.Bits.{bit_xor, differ, xor_step, xor_zero_l, xor_zero_r, xor_shr, xor_mod, xor_shifted, xor_self}
use Rattle.key_murmur3.specs.Words.{xor}
use Rattle.key_for_hash.proofs.XorLaws.{xor-again}

-- ---- grouping

differ-assoc : (x y z : ℕ) → x < 2 → y < 2 → z < 2 → differ (differ x y) z ≡ differ x (differ y z)
differ-assoc zero y z p q r = refl
differ-assoc (suc zero) zero z p q r = refl
differ-assoc (suc zero) (suc zero) zero p q r = refl
differ-assoc (suc zero) (suc zero) (suc zero) p q r = refl
differ-assoc (suc zero) (suc zero) (suc (suc z)) p q r = absurd (omega arith)
differ-assoc (suc zero) (suc (suc y)) z p q r = absurd (omega arith)
differ-assoc (suc (suc x)) y z p q r = absurd (omega arith)

differ-digit : (x y : ℕ) → x < 2 → y < 2 → differ x y < 2
differ-digit zero y p q = q
differ-digit (suc zero) zero p q = p
differ-digit (suc zero) (suc zero) p q = lit< tt
differ-digit (suc zero) (suc (suc y)) p q = absurd (omega arith)
differ-digit (suc (suc x)) y p q = absurd (omega arith)

module _ (a b : ℕ) where
  digit : differ (a % 2) (b % 2) < 2
  digit = differ-digit (a % 2) (b % 2) (mod-lt a (lit< tt)) (mod-lt b (lit< tt))

  half : bit_xor a b / 2 ≡ bit_xor (a / 2) (b / 2)
  half = ap (λ (n : ℕ). n / 2) (xor_step a b) ∙ digits_div (bit_xor (a / 2) (b / 2)) digit

  low : bit_xor a b % 2 ≡ differ (a % 2) (b % 2)
  low = ap (λ (n : ℕ). n % 2) (xor_step a b) ∙ digits_mod (bit_xor (a / 2) (b / 2)) digit

assoc-step : (a b c : ℕ) → bit_xor (bit_xor (a / 2) (b / 2)) (c / 2) ≡ bit_xor (a / 2) (bit_xor (b / 2) (c / 2))
    → bit_xor (bit_xor a b) c ≡ bit_xor a (bit_xor b c)
assoc-step a b c ih =
    xor_step (bit_xor a b) c
    ∙ ap₂ (λ (m n : ℕ). bit_xor m (c / 2) * 2 + differ n (c % 2)) (half a b) (low a b)
    ∙ ap₂ (λ (m n : ℕ). m * 2 + n) ih
    (differ-assoc (a % 2) (b % 2) (c % 2) (mod-lt a (lit< tt)) (mod-lt b (lit< tt)) (mod-lt c (lit< tt)))
    ∙ sym (ap₂ (λ (m n : ℕ). bit_xor (a / 2) m * 2 + differ (a % 2) n) (half b c) (low b c))
    ∙ sym (xor_step a (bit_xor b c))

pub xor_assoc : (a b c : ℕ) → xor (xor a b) c ≡ xor a (xor b c)
unfolding xor
xor_assoc a b c =
    bin_ind (λ (n : ℕ). (l m : ℕ) → bit_xor (bit_xor n l) m ≡ bit_xor n (bit_xor l m))
    (λ l m. ap (λ (n : ℕ). bit_xor n m) (xor_zero_l l) ∙ sym (xor_zero_l (bit_xor l m)))
    (λ n ih l m. assoc-step n l m (ih (l / 2) (m / 2))) a b c

pub xor_comm : (a b : ℕ) → xor a b ≡ xor b a
unfolding xor
xor_comm a b = bits.xor_comm a b

pub xor-none-r : (a : ℕ) → xor a 0 ≡ a
unfolding xor
xor-none-r a = xor_zero_r a

-- ---- parts

pub xor-half : (a b : ℕ) → xor a b / 2 ≡ xor (a / 2) (b / 2)
unfolding xor
xor-half a b = half a b

pub xor-odd : (a b : ℕ) → xor a b % 2 ≡ differ (a % 2) (b % 2)
unfolding xor
xor-odd a b = low a b

-- the bits above the low eight
pub xor-high : (a b : ℕ) → b < 256 → xor a b / 256 ≡ a / 256
unfolding xor
xor-high a b h =
    let z : b / 256 ≡ 0 = omega arith in
    xor_shr a b 8 ∙ ap (bit_xor (a / 256)) z ∙ xor_zero_r (a / 256)

-- a number is its low eight bits and the others
pub xor-cut : (x : ℕ) → x ≡ xor (x / 256 * 256) (x % 256)
unfolding xor
xor-cut x = sym (xor_shifted (x / 256) 8 (x % 256) (mod-lt x (lit< tt)) ∙ div-add-mod' x 256)

-- ---- a xor that is 0

pub xor_same : (a : ℕ) → xor a a ≡ 0
unfolding xor
xor_same a = xor_self a

pub xor-zero : (a b : ℕ) → xor a b ≡ 0 → a ≡ b
unfolding xor
xor-zero a b e = sym (xor-again a b) ∙ ap (λ (n : ℕ). xor n b) e ∙ xor_zero_l b

-- taken off on the left
pub xor-cancel : (a b c : ℕ) → xor a b ≡ xor a c → b ≡ c
xor-cancel a b c e =
    let f : xor b a ≡ xor c a = xor_comm b a ∙ e ∙ xor_comm a c in
    sym (xor-again b a) ∙ ap (λ (n : ℕ). xor n a) f ∙ xor-again c a
