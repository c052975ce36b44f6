-- The Rust's numbers in text are this port's: written in decimal (`display-agrees`) and as four hexadecimal digits
-- (`hex-agrees`), and read where each byte is such a digit (`hex-number`, `decimal-number`).
-- Assumes nothing.
use Rattle.std.specs.Prelude.{Option, Some, None}
use Prim.Native.Nat.{ℕ, zero, suc, ◌+◌, ◌-◌, ◌*◌, ◌/◌, ◌%◌, ◌≤◌, ◌<◌}
use native.Mathlib.Omega.{arith}
use native.Mathlib.Decide.{dec_lt}
use mathlib.Core.Path.{◌≡◌, refl, sym, ap, ◌∙◌}
use mathlib.Core.Bool.{Bool, true, false, cond, ◌||◌, and-false, true≢false}
use mathlib.Core.List.{List, [], ◌∷◌, ◌++◌, map, map-append}
use lib.ListN.{length}
use lib.Dec.{eqb, ltb}
use borrow.Author.Tests.{lt-ltb, le-ltb, ltb-true, le-leb, lt-leb, eqb-true, ne_eqb}
use Rattle.slice.specs.BoolLaws.{both_true}
use Rattle.name_parents.specs.Classes.{class_of, is_digit_byte, is_hex_digit}
use Rattle.name_topic.specs.Names.{hex4, decimal_within, decimal}
use Rattle.name_digits.specs.Digits.{every, all_digits, all_hex_digits, value_from, digit_value, hex_digit_value, decimal_value, hex_value}
use Rattle.name_digits.proofs.ClassLaws.{digit-bounds, letter-bounds}
use Rattle.rust_magnetar.specs.Text.{Text}
use Rattle.rust_magnetar.specs.Numerals.{digits, from-digit, display, zero-padded, lower-hex-4, and_then, to-digit, digits-behind, from-str-radix}

-- ---- written

one-digit : (base most v : ℕ) → v < base → digits base (suc most) v ≡ v ∷ []
one-digit base most v h = rw (lt-ltb v base h)

more-digits : (base most v : ℕ) → base ≤ v → digits base (suc most) v ≡ digits base most (v / base) ++ ((v % base) ∷ [])
more-digits base most v h = rw (le-ltb v base h)

digits-agree : (k v : ℕ) → map from-digit (digits 10 k v) ≡ decimal_within k v
unfolding decimal_within
digits-agree zero v = refl
digits-agree (suc k) v = go (ltb v 10) refl (digits-agree k (v / 10))
  where
    go : (t : Bool) → ltb v 10 ≡ t → map from-digit (digits 10 k (v / 10)) ≡ decimal_within k (v / 10)
        → map from-digit (cond t (v ∷ []) (digits 10 k (v / 10) ++ ((v % 10) ∷ [])))
        ≡ cond t [] (decimal_within k (v / 10)) ++ ((0x30 + v % 10) ∷ [])
    go true e ih = let r : v % 10 ≡ v = omega (arith, ltb-true v 10 e) in rw (e, r)
    go false e ih =
        map-append from-digit (digits 10 k (v / 10)) ((v % 10) ∷ []) ∙ rw (ih, lt-ltb (v % 10) 10 (omega arith))

pub display-agrees : (v : ℕ) → display v ≡ decimal v
unfolding decimal
display-agrees v = digits-agree 20 v

module _ (v : ℕ) where
  abbrev word : List ℕ → Text
  word ds = zero-padded 4 (map from-digit ds)

  hex-1 : v < 16 → lower-hex-4 v ≡ hex4 v
  unfolding hex4
  hex-1 h =
      let a : v / 4096 % 16 ≡ 0 = omega arith in
      let b : v / 256 % 16 ≡ 0 = omega arith in
      let c : v / 16 % 16 ≡ 0 = omega arith in
      let d : v % 16 ≡ v = omega arith in
      ap word (one-digit 16 7 v h) ∙ rw (a, b, c, d)

  hex-2 : 16 ≤ v → v < 256 → lower-hex-4 v ≡ hex4 v
  unfolding hex4
  hex-2 l h =
      let a : v / 4096 % 16 ≡ 0 = omega arith in
      let b : v / 256 % 16 ≡ 0 = omega arith in
      let c : v / 16 % 16 ≡ v / 16 = omega arith in
      let e : digits 16 8 v ≡ v / 16 ∷ v % 16 ∷ [] = more-digits 16 7 v l ∙ rw (one-digit 16 6 (v / 16) (omega arith)) in
      ap word e ∙ rw (a, b, c)

  hex-3 : 256 ≤ v → v < 4096 → lower-hex-4 v ≡ hex4 v
  unfolding hex4
  hex-3 l h =
      let a : v / 4096 % 16 ≡ 0 = omega arith in
      let b : v / 256 % 16 ≡ v / 16 / 16 = omega arith in
      let e : digits 16 8 v ≡ v / 16 / 16 ∷ v / 16 % 16 ∷ v % 16 ∷ [] =
      more-digits 16 7 v (omega arith) ∙ rw (more-digits 16 6 (v / 16) (omega arith), one-digit 16 5 (v / 16 / 16) (omega arith)) in
      ap word e ∙ rw (a, b)

  hex-4 : 4096 ≤ v → v < 65536 → lower-hex-4 v ≡ hex4 v
  unfolding hex4
  hex-4 l h =
      let a : v / 4096 % 16 ≡ v / 16 / 16 / 16 = omega arith in
      let b : v / 256 % 16 ≡ v / 16 / 16 % 16 = omega arith in
      let e : digits 16 8 v ≡ v / 16 / 16 / 16 ∷ v / 16 / 16 % 16 ∷ v / 16 % 16 ∷ v % 16 ∷ [] =
      more-digits 16 7 v (omega arith)
      ∙ rw (
        more-digits 16 6 (v / 16) (omega arith),
        more-digits 16 5 (v / 16 / 16) (omega arith),
        one-digit 16 4 (v / 16 / 16 / 16) (omega arith),
      ) in
      ap word e ∙ rw (a, b)

  pub hex-agrees : v < 65536 → lower-hex-4 v ≡ hex4 v
  hex-agrees h = go (dec_lt v 16) (dec_lt v 256) (dec_lt v 4096)
    where
      go : Dec (v < 16) → Dec (v < 256) → Dec (v < 4096) → lower-hex-4 v ≡ hex4 v
      go (yes p) b c = hex-1 p
      go (no p) (yes q) c = hex-2 (omega arith) q
      go (no p) (no q) (yes r) = hex-3 (omega arith) r
      go (no p) (no q) (no r) = hex-4 (omega arith) h

-- ---- read

-- bytes that pass the test are digits of that value, and '+' does not pass it
module _ (radix : ℕ) (test : ℕ → Bool) (value : ℕ → ℕ) (is : (b : ℕ) → test b ≡ true → to-digit radix b ≡ Some (value b))
    (sign : test 0x2B ≡ false) where
  behind-agrees : (a : ℕ) (s : Text) → every test s ≡ true → digits-behind radix a s ≡ Some (value_from radix value a s)
  unfolding every value_from
  behind-agrees a [] e = refl
  behind-agrees a (b ∷ s) e =
      let p = both_true (test b) (every test s) e in
      rw (is b p.0) (behind-agrees (a * radix + value b) s p.1)

  number-agrees : (values : ℕ) (s : Text) → 0 < length s → every test s ≡ true
      → from-str-radix values radix s ≡ cond (ltb (value_from radix value 0 s) values) (Some (value_from radix value 0 s)) None
  unfolding every
  number-agrees values [] h e = absurd (omega arith)
  number-agrees values (b ∷ s) h e =
      let p = both_true (test b) (every test s) e in
      let n : eqb b 0x2B ≡ false = ne_eqb b 0x2B (λ q. true≢false (sym p.0 ∙ ap test q ∙ sign)) in
      rw n (ap (λ (o : Option ℕ). and_then o (λ number. cond (ltb number values) (Some number) None)) (behind-agrees 0 (b ∷ s) e))

digit-is : (b : ℕ) → is_digit_byte b ≡ true → to-digit 10 b ≡ Some (digit_value b)
digit-is b e =
    let k = digit-bounds b (eqb-true (class_of b) 1 e) in
    rw (le-leb 0x30 b k.0, le-leb b 0x39 k.1, lt-ltb (b - 0x30) 10 (omega arith))

hex-is : (b : ℕ) → is_hex_digit b ≡ true → to-digit 16 b ≡ Some (hex_digit_value b)
hex-is b = go (eqb (class_of b) 1) refl (eqb (class_of b) 2) refl
  where
    go : (t : Bool) → eqb (class_of b) 1 ≡ t → (u : Bool) → eqb (class_of b) 2 ≡ u → (t || u) ≡ true
        → to-digit 16 b ≡ Some (cond t (b - 0x30) (b - 0x57))
    go true p u q e =
        let k = digit-bounds b (eqb-true (class_of b) 1 p) in
        rw (le-leb 0x30 b k.0, le-leb b 0x39 k.1, lt-ltb (b - 0x30) 16 (omega arith))
    go false p true q e =
        let k = letter-bounds b (eqb-true (class_of b) 2 q) in
        rw (lt-leb b 0x39 (omega arith), and-false, le-leb 0x61 b k.0, le-leb b 0x7A (omega arith), lt-ltb (b - 0x57) 16 (omega arith))
    go false p false q e = absurd (true≢false (sym e))

pub decimal-number : (values : ℕ) (s : Text) → 0 < length s → all_digits s ≡ true
    → from-str-radix values 10 s ≡ cond (ltb (decimal_value s) values) (Some (decimal_value s)) None
unfolding decimal_value class_of
decimal-number values s h e = number-agrees 10 is_digit_byte digit_value digit-is refl values s h e

pub hex-number : (values : ℕ) (s : Text) → 0 < length s → all_hex_digits s ≡ true
    → from-str-radix values 16 s ≡ cond (ltb (hex_value s) values) (Some (hex_value s)) None
unfolding hex_value class_of
hex-number values s h e = number-agrees 16 is_hex_digit hex_digit_value hex-is refl values s h e
