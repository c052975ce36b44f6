-- Laws of numbers in digits.
--
-- In order: a loop over digits from the left (`Reading`: `reading-start`, `reading-other`, `reading-next`, `reading-end`; `value_grows`,
-- `word_next`); the cases of `hex_word` (`word-length`, `word-other`, `word-is`) and of `segment_id_of` (`id-empty`, `id-leading-zero`,
-- `id_other`, `id-large`, `id-is`); both read backwards (`word-told`, `word_none`, `id-told`, `id-none`); the bound of four hexadecimal
-- digits (`word_bound`).
-- Assumes nothing.
use Rattle.std.specs.Prelude.{Some, None}
use Prim.Native.Nat.{ℕ, ◌+◌, ◌*◌, ◌^◌, ◌≤◌, ◌<◌}
use native.Mathlib.Nat.{mul_assoc, pow-succ', pow-le-pow_right}
use native.Mathlib.Numerals.{add-one}
use native.Mathlib.Omega.{arith}
use mathlib.Core.Logic.{◌⊎◌, inl, inr}
use mathlib.Core.Path.{◌≡◌, refl, sym, ◌∙◌, subst}
use mathlib.Core.Bool.{Bool, true, false, cond, not, ◌&&◌, ◌||◌, and-false, or-true}
use mathlib.Core.List.{List, [], ◌∷◌}
use lib.ListN.{length, drop, get_or, drop_of_length-le}
use lib.Seq.{drop-cons}
use lib.Dec.{eqb}
use borrow.Author.Tests.{lt-ltb, le-ltb, eq-eqb, eqb-true, ne_eqb}
use Rattle.slice.specs.BoolLaws.{both_true}
use Rattle.name_parents.specs.Classes.{is_digit_byte, is_hex_digit}
use Rattle.name_digits.specs.Digits.{every, all_digits, all_hex_digits, value_from, digit_value, hex_digit_value, decimal_value, hex_value}
use Rattle.name_digits.specs.Digits.{is_hex_word, is_segment_id, hex_word, segment_id_of}
use Rattle.slice.proofs.TestLaws.{cond-first, cond-second}
use Rattle.name_digits.proofs.ClassLaws.{hex-value-bound}

-- ---- a loop over digits

-- behind the first i digits, of value v, what is left decides
pub record Reading (test : ℕ → Bool) (base : ℕ) (value : ℕ → ℕ) (s : List ℕ) (i v : ℕ) : Type 0 where
  pub inside : i ≤ length s
  pub digits : every test s ≡ every test (drop i s)
  pub number : value_from base value 0 s ≡ value_from base value v (drop i s)

module _ (test : ℕ → Bool) (base : ℕ) (value : ℕ → ℕ) (s : List ℕ) where
  pub reading-start : Reading test base value s 0 0
  reading-start = record { inside = omega arith; digits = refl; number = refl }

  module _ (i v : ℕ) (R : Reading test base value s i v) where
    module _ (k : i < length s) where
      every-at : every test (drop i s) ≡ (test (get_or s i 0) && every test (drop (i + 1) s))
      unfolding every
      every-at = rw (add-one, drop-cons s i 0 k)

      value-at : value_from base value v (drop i s) ≡ value_from base value (v * base + value (get_or s i 0)) (drop (i + 1) s)
      unfolding value_from
      value-at = rw (add-one, drop-cons s i 0 k)

      pub reading-other : test (get_or s i 0) ≡ false → every test s ≡ false
      reading-other e = R.digits ∙ every-at ∙ rw e

      pub reading-next : (d : ℕ) → test (get_or s i 0) ≡ true → d ≡ value (get_or s i 0) → Reading test base value s (i + 1) (v * base + d)
      reading-next d e f =
          record { inside = omega arith; digits = R.digits ∙ every-at ∙ rw e; number = R.number ∙ value-at ∙ rw f }

    pub reading-end : length s ≤ i → (every test s ≡ true) × (value_from base value 0 s ≡ v)
    unfolding every value_from
    reading-end h =
        let d : drop i s ≡ [] = drop_of_length-le s h in
        (R.digits ∙ rw d, R.number ∙ rw d)

-- a number is not below the one that its first digits make
pub value_grows : (a : ℕ) (l : List ℕ) → a ≤ value_from 10 digit_value a l
unfolding value_from
value_grows a [] = omega arith
value_grows a (b ∷ l) = omega (arith, value_grows (a * 10 + digit_value b) l)

-- a value of i hexadecimal digits and one digit more
pub word_next : (i v d : ℕ) → i < 4 → v < 16 ^ i → d < 16 → (v * 16 + d < 16 ^ (i + 1)) × (v * 16 + d < 65536)
word_next i v d h k l =
    let e : 16 ^ (i + 1) ≡ 16 * 16 ^ i = rw (add-one, pow-succ') in
    let p : v * 16 + d < 16 ^ (i + 1) = omega arith in
    let q : 16 ^ (i + 1) ≤ 65536 = pow-le-pow_right {n = 16} (omega arith) {i = i + 1} {j = 4} (omega arith) in
    (p, omega arith)

-- ---- the cases

module _ (s : List ℕ) where
  pub word-length : (length s ≡ 4 → ⊥) → hex_word s ≡ None
  unfolding hex_word is_hex_word
  word-length h = rw (ne_eqb (length s) 4 h)

  pub word-other : all_hex_digits s ≡ false → hex_word s ≡ None
  unfolding hex_word is_hex_word
  word-other e = rw (e, and-false)

  pub word-is : (v : ℕ) → length s ≡ 4 → all_hex_digits s ≡ true → value_from 16 hex_digit_value 0 s ≡ v → hex_word s ≡ Some v
  unfolding hex_word is_hex_word hex_value
  word-is v h e f = rw (eq-eqb (length s) 4 h, e, f)

  not-id : is_segment_id s ≡ false → segment_id_of s ≡ None
  unfolding segment_id_of
  not-id e = rw e

  pub id-empty : length s ≡ 0 → segment_id_of s ≡ None
  unfolding is_segment_id
  id-empty e = not-id (rw e)

  pub id-leading-zero : get_or s 0 0 ≡ 0x30 → (length s ≡ 1 → ⊥) → segment_id_of s ≡ None
  unfolding is_segment_id
  id-leading-zero e h = not-id (simp (e, ne_eqb (length s) 1 h, and-false))

  pub id_other : all_digits s ≡ false → segment_id_of s ≡ None
  unfolding is_segment_id
  id_other e = not-id (simp (e, and-false))

  pub id-large : (i v : ℕ) → Reading is_digit_byte 10 digit_value s i v → 2 ^ 64 ≤ v → segment_id_of s ≡ None
  unfolding is_segment_id decimal_value
  id-large i v R h =
      let k = value_grows v (drop i s) in
      let b : 2 ^ 64 ≤ value_from 10 digit_value 0 s = omega (arith, R.number) in
      not-id (simp (le-ltb (value_from 10 digit_value 0 s) (2 ^ 64) b, and-false))

  first-digit : (length s ≡ 1) ⊎ (get_or s 0 0 ≡ 0x30 → ⊥) → (eqb (length s) 1 || not (eqb (get_or s 0 0) 0x30)) ≡ true
  first-digit (inl e) = rw (eq-eqb (length s) 1 e)
  first-digit (inr h) = rw (ne_eqb (get_or s 0 0) 0x30 h) (or-true (eqb (length s) 1))

  pub id-is : (v : ℕ) → 0 < length s → (length s ≡ 1) ⊎ (get_or s 0 0 ≡ 0x30 → ⊥) → all_digits s ≡ true → value_from 10 digit_value 0 s ≡ v
      → v < 2 ^ 64 → segment_id_of s ≡ Some v
  unfolding segment_id_of is_segment_id decimal_value
  id-is v h z e f b = rw (lt-ltb 0 (length s) h, e, first-digit z, f, lt-ltb v (2 ^ 64) b)

-- ---- the cases read backwards

none_is : {n : ℕ} → None ≡ Some n → ⊥
none_is q = let z : ◌≡◌ {A = ℕ} 0 1 = cc in omega arith

number_is : (t : Bool) (n m : ℕ) → cond t (Some n) None ≡ Some m → (t ≡ true) × (n ≡ m)
number_is t n m e =
    let p = cond-first t (Some n) None (Some m) none_is e in
    let q = p.1 in
    (p.0, cc)

number-none : (t : Bool) (n : ℕ) → cond t (Some n) None ≡ None → t ≡ false
number-none t n e = (cond-second t (Some n) None None (λ q. none_is (sym q)) e).0

module _ (s : List ℕ) where
  pub word-told : (n : ℕ) → hex_word s ≡ Some n → (is_hex_word s ≡ true) × (hex_value s ≡ n)
  unfolding hex_word
  word-told n = number_is (is_hex_word s) (hex_value s) n

  pub word_none : hex_word s ≡ None → is_hex_word s ≡ false
  unfolding hex_word
  word_none = number-none (is_hex_word s) (hex_value s)

  pub id-told : (n : ℕ) → segment_id_of s ≡ Some n → (is_segment_id s ≡ true) × (decimal_value s ≡ n)
  unfolding segment_id_of
  id-told n = number_is (is_segment_id s) (decimal_value s) n

  pub id-none : segment_id_of s ≡ None → is_segment_id s ≡ false
  unfolding segment_id_of
  id-none = number-none (is_segment_id s) (decimal_value s)

-- ---- the bound of four digits

value-bound : (n a : ℕ) (l : List ℕ) → all_hex_digits l ≡ true → a < n → value_from 16 hex_digit_value a l < n * 16 ^ length l
unfolding every value_from
value-bound n a [] e h = omega arith
value-bound n a (b ∷ l) e h =
    let p = both_true (is_hex_digit b) (all_hex_digits l) e in
    rw (pow-succ', ← mul_assoc) (value-bound (n * 16) (a * 16 + hex_digit_value b) l p.1 (omega (arith, hex-value-bound b p.0)))

pub word_bound : (s : List ℕ) → is_hex_word s ≡ true → hex_value s < 65536
unfolding is_hex_word hex_value
word_bound s e =
    let p = both_true (eqb (length s) 4) (all_hex_digits s) e in
    subst (λ (n : ℕ). hex_value s < 1 * 16 ^ n) (eqb-true (length s) 4 p.0) (value-bound 1 0 s p.1 (omega arith))
