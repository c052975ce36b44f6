-- Laws of the places of a word.
--
-- In order: places of `or` and of `and` (`bit-or`, `bit-and`); a number none of whose places is set is 0 (`bits_none`); the places of `ones`
-- (`ones_below`, `ones-within`, `ones_above`), and how it is made by shifts (`ones-made`).
-- Assumes nothing.
use mathlib.Core.Path.{◌≡◌, refl, sym, ap, ◌∙◌}
use Prim.Native.Nat.{ℕ, zero, suc, ◌+◌, ◌-◌, ◌*◌, ◌/◌, ◌%◌, ◌^◌, ◌≤◌, ◌<◌, min, max}
use native.Mathlib.Nat.{zero-div, pow-suc, div-one, mul_assoc, mod-lt, zero-lt-suc, div-eq_of_lt, div-div-eq-div-mul, mul_comm, lt_of_lt_of_le}
use native.Mathlib.Omega.{arith}
use mathlib.Core.Bool.{Bool, true, false, ◌&&◌, ◌||◌}
use lib.Dec.{eqb}
use lib.Arith.{digits_mod, dbl_pred}
use lib.Pow.{pow_pos, pow_mono, pow-add, shr-shr, shl-shr, shl_exact, ones_split, high, ones_lt, shl_lt}
use lib.Bits.{bit_and, bit_or, and_step, or_step, and_shr, or_shr, shifted_even}
use Rattle.ranges_marks.specs.Bits.{bit, ones}

two_pos : zero < 2
two_pos = zero-lt-suc 1

-- ---- `or` and `and`
max-digit : (p q : ℕ) → p < 2 → q < 2 → (max p q < 2) × (eqb (max p q) 1 ≡ eqb p 1 || eqb q 1)
max-digit zero zero f g = (omega arith, refl)
max-digit zero (suc zero) f g = (omega arith, refl)
max-digit zero (suc (suc q)) f g = absurd (omega arith)
max-digit (suc zero) zero f g = (omega arith, refl)
max-digit (suc zero) (suc zero) f g = (omega arith, refl)
max-digit (suc zero) (suc (suc q)) f g = absurd (omega arith)
max-digit (suc (suc p)) q f g = absurd (omega arith)

min-digit : (p q : ℕ) → p < 2 → q < 2 → (min p q < 2) × (eqb (min p q) 1 ≡ eqb p 1 && eqb q 1)
min-digit zero zero f g = (omega arith, refl)
min-digit zero (suc zero) f g = (omega arith, refl)
min-digit zero (suc (suc q)) f g = absurd (omega arith)
min-digit (suc zero) zero f g = (omega arith, refl)
min-digit (suc zero) (suc zero) f g = (omega arith, refl)
min-digit (suc zero) (suc (suc q)) f g = absurd (omega arith)
min-digit (suc (suc p)) q f g = absurd (omega arith)

pub bit-or : (a b i : ℕ) → bit (bit_or a b) i ≡ bit a i || bit b i
unfolding bit
bit-or a b i =
    let x = a / 2 ^ i in
    let y = b / 2 ^ i in
    let d = max-digit (x % 2) (y % 2) (mod-lt x two_pos) (mod-lt y two_pos) in
    ap (λ (n : ℕ). eqb (n % 2) 1) (or_shr a b i ∙ or_step x y) ∙ ap (λ (n : ℕ). eqb n 1) (digits_mod (bit_or (x / 2) (y / 2)) d.0) ∙ d.1

pub bit-and : (a b i : ℕ) → bit (bit_and a b) i ≡ bit a i && bit b i
unfolding bit
bit-and a b i =
    let x = a / 2 ^ i in
    let y = b / 2 ^ i in
    let d = min-digit (x % 2) (y % 2) (mod-lt x two_pos) (mod-lt y two_pos) in
    ap (λ (n : ℕ). eqb (n % 2) 1) (and_shr a b i ∙ and_step x y) ∙ ap (λ (n : ℕ). eqb n 1) (digits_mod (bit_and (x / 2) (y / 2)) d.0) ∙ d.1

pub bit-zero : (i : ℕ) → bit 0 i ≡ false
unfolding bit
bit-zero i = rw (zero-div)

-- ---- no place is set
bit-first : (x : ℕ) → bit x 0 ≡ eqb (x % 2) 1
unfolding bit
bit-first x = rw div-one

bit-next : (x i : ℕ) → bit (x / 2) i ≡ bit x (suc i)
unfolding bit
bit-next x i = ap (λ (n : ℕ). eqb (n % 2) 1) (div-div-eq-div-mul x 2 (2 ^ i) ∙ ap (λ (n : ℕ). x / n) (mul_comm 2 (2 ^ i) ∙ sym (pow-suc 2 i)))

even : (p : ℕ) → p < 2 → eqb p 1 ≡ false → p ≡ 0
even zero f e = refl
even (suc zero) f e = let z : ◌≡◌ {A = Bool} true false = e in absurd (let q : ◌≡◌ {A = ℕ} 0 1 = cc in omega arith)
even (suc (suc p)) f e = absurd (omega arith)

pub bits_none : (k x : ℕ) → x < 2 ^ k → ((i : ℕ) → i < k → bit x i ≡ false) → x ≡ 0
bits_none zero x h f = omega arith
bits_none (suc k) x h f =
    let g : x / 2 ≡ 0 = bits_none k (x / 2) (omega (arith, pow-suc 2 k)) (λ i l. bit-next x i ∙ f (suc i) (omega arith)) in
    let e : x % 2 ≡ 0 = even (x % 2) (mod-lt x two_pos) (sym (bit-first x) ∙ f 0 (omega arith)) in
    omega arith

-- ---- places that are set
odd-ones : (d : ℕ) → (2 ^ suc d - 1) % 2 ≡ 1
odd-ones d = ap (λ (n : ℕ). (n - 1) % 2) (pow-suc 2 d) ∙ ap (λ (n : ℕ). n % 2) (dbl_pred (pow_pos d)) ∙ digits_mod (2 ^ d - 1) (omega arith)

pub ones_below : (low count i : ℕ) → i < low → bit (ones low count) i ≡ false
unfolding bit ones
ones_below low count i h =
    let d = low - suc i in
    let e : low ≡ suc d + i = omega arith in
    let c = 2 ^ count - 1 in
    let s : c * 2 ^ low / 2 ^ i ≡ c * 2 ^ suc d =
    ap (λ (n : ℕ). c * n / 2 ^ i) (ap (λ (n : ℕ). 2 ^ n) e ∙ pow-add 2 (suc d) i) ∙ ap (λ (n : ℕ). n / 2 ^ i) (sym (mul_assoc c (2 ^ suc d) (2 ^ i)))
    ∙ shl-shr (c * 2 ^ suc d) i in
    ap (λ (n : ℕ). eqb (n % 2) 1) s ∙ ap (λ (n : ℕ). eqb n 1) (shifted_even c d)

-- from low on, the places are those of 2 ^ count - 1
ones-from : (low count i : ℕ) → low ≤ i → ones low count / 2 ^ i ≡ (2 ^ count - 1) / 2 ^ (i - low)
unfolding ones
ones-from low count i h =
    let e : i ≡ low + (i - low) = omega arith in
    ap (λ (n : ℕ). (2 ^ count - 1) * 2 ^ low / 2 ^ n) e ∙ sym (shr-shr ((2 ^ count - 1) * 2 ^ low) low (i - low))
    ∙ ap (λ (n : ℕ). n / 2 ^ (i - low)) (shl-shr (2 ^ count - 1) low)

pub ones-within : (low count i : ℕ) → low ≤ i → i < low + count → bit (ones low count) i ≡ true
unfolding bit
ones-within low count i h l =
    let m = i - low in
    let d = count - suc m in
    let e : count ≡ suc d + m = omega arith in
    let s : (2 ^ count - 1) / 2 ^ m ≡ 2 ^ suc d - 1 =
    ap (λ (n : ℕ). (2 ^ n - 1) / 2 ^ m) e ∙ ap (λ (n : ℕ). n / 2 ^ m) (ones_split (suc d) m) ∙ high (2 ^ suc d - 1) m (ones_lt m) in
    ap (λ (n : ℕ). eqb (n % 2) 1) (ones-from low count i h ∙ s) ∙ ap (λ (n : ℕ). eqb n 1) (odd-ones d)

pub ones_above : (low count i : ℕ) → low + count ≤ i → bit (ones low count) i ≡ false
unfolding bit
ones_above low count i h =
    let s : (2 ^ count - 1) / 2 ^ (i - low) ≡ 0 = div-eq_of_lt (lt_of_lt_of_le (ones_lt count) (pow_mono (omega arith))) in
    ap (λ (n : ℕ). eqb (n % 2) 1) (ones-from low count i (omega arith) ∙ s)

-- ---- by shifts
pub ones-made : (low count : ℕ) → 0 < count → low + count ≤ 64 → (0xffffffffffffffff / 2 ^ (64 - count)) * 2 ^ low % 2 ^ 64 ≡ ones low count
unfolding ones
ones-made low count h l =
    let s : (2 ^ 64 - 1) / 2 ^ (64 - count) ≡ 2 ^ count - 1 =
    ap (λ (n : ℕ). (2 ^ n - 1) / 2 ^ (64 - count)) (let e : 64 ≡ count + (64 - count) = omega arith in e)
    ∙ ap (λ (n : ℕ). n / 2 ^ (64 - count)) (ones_split count (64 - count)) ∙ high (2 ^ count - 1) (64 - count) (ones_lt (64 - count)) in
    ap (λ (n : ℕ). n * 2 ^ low % 2 ^ 64) s ∙ shl_exact count low 64 (ones_lt count) (omega arith)

pub ones_small : (low count : ℕ) → low + count ≤ 64 → ones low count < 2 ^ 64
unfolding ones
ones_small low count l =
    let h : count + low ≤ 64 = omega arith in
    lt_of_lt_of_le (shl_lt count low (ones_lt count)) (pow_mono h)
