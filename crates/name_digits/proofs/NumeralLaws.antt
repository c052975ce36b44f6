-- Numbers written in digits and read back, and digits read and written back.
--
-- In order: a hexadecimal digit (`hex-written`, `hex-read`); digits behind digits (`every_append`, `value-append`); four hexadecimal
-- digits (`word-written`, `word_read`); a decimal id (`id-written`, `id-read`).
-- Assumes nothing.
use Rattle.std.specs.Prelude.{Some}
use Prim.Native.Nat.{ℕ, zero, suc, ◌+◌, ◌-◌, ◌*◌, ◌/◌, ◌%◌, ◌^◌, ◌≤◌, ◌<◌}
use native.Mathlib.Nat.{mul_assoc, pow-succ', pow-le-pow_right, mul-le-mul_right, le_trans, div-div-eq-div-mul}
use native.Mathlib.Omega.{arith}
use native.Mathlib.Decide.{dec_lt}
use mathlib.Core.Logic.{◌⊎◌, inl, inr}
use mathlib.Core.Path.{◌≡◌, refl, sym, ap, ◌∙◌}
use mathlib.Core.Bool.{Bool, true, false, cond, not, ◌&&◌, ◌||◌, and_assoc, true≢false}
use mathlib.Core.List.{List, [], ◌∷◌, ◌++◌, append_assoc, append-nil}
use lib.ListN.{length, get_or, length-append, get_or-append}
use lib.Dec.{ltb, eqb}
use borrow.Author.Tests.{lt-ltb, le-ltb, ltb-true, ltb-false, eqb-true, eq-eqb, ne_eqb}
use Rattle.slice.specs.BoolLaws.{both_true}
use Rattle.name_parents.specs.Classes.{class_of, is_digit_byte, is_hex_digit}
use Rattle.name_parents.specs.Parents.{non_empty}
use Rattle.name_topic.specs.Names.{hex_digit, hex4, decimal_within, decimal}
use Rattle.name_topic.proofs.NameLaws.{decimal-end, digits-fewer, decimal_nonempty}
use Rattle.name_digits.specs.Digits.{every, all_digits, all_hex_digits, value_from, digit_value, hex_digit_value, decimal_value, hex_value}
use Rattle.name_digits.specs.Digits.{is_hex_word, is_segment_id, hex_word, segment_id_of}
use Rattle.name_digits.proofs.ClassLaws.{class-digit, class-letter, digit-bounds, letter-bounds, hex-value-bound}
use Rattle.name_digits.proofs.DigitLaws.{word-is, id-is}

-- ---- one hexadecimal digit

pub hex-written : (n : ℕ) → n < 16 → (is_hex_digit (hex_digit n) ≡ true) × (hex_digit_value (hex_digit n) ≡ n)
hex-written n h = go (ltb n 10) refl
  where
    go : (t : Bool) → ltb n 10 ≡ t
        → (is_hex_digit (cond t (0x30 + n) (0x57 + n)) ≡ true) × (hex_digit_value (cond t (0x30 + n) (0x57 + n)) ≡ n)
    go true p =
        let c : class_of (0x30 + n) ≡ 1 = class-digit (0x30 + n) (omega arith) (omega (arith, ltb-true n 10 p)) in
        (rw c, rw c (omega arith))
    go false p =
        let c : class_of (0x57 + n) ≡ 2 = class-letter (0x57 + n) (omega (arith, ltb-false n 10 p)) (omega arith) in
        (rw c, rw c (omega arith))

pub hex-read : (b : ℕ) → is_hex_digit b ≡ true → hex_digit (hex_digit_value b) ≡ b
hex-read b = go (eqb (class_of b) 1) refl (eqb (class_of b) 2) refl
  where
    go : (t : Bool) → eqb (class_of b) 1 ≡ t → (u : Bool) → eqb (class_of b) 2 ≡ u → (t || u) ≡ true
        → hex_digit (cond t (b - 0x30) (b - 0x57)) ≡ b
    go true p u q e =
        let k = digit-bounds b (eqb-true (class_of b) 1 p) in
        rw (lt-ltb (b - 0x30) 10 (omega arith)) (omega arith)
    go false p true q e =
        let k = letter-bounds b (eqb-true (class_of b) 2 q) in
        rw (le-ltb (b - 0x57) 10 (omega arith)) (omega arith)
    go false p false q e = absurd (true≢false (sym e))

-- ---- digits behind digits

pub every_append : (test : ℕ → Bool) (l m : List ℕ) → every test (l ++ m) ≡ (every test l && every test m)
unfolding every
every_append test [] m = refl
every_append test (b ∷ l) m = rw (every_append test l m) (sym (and_assoc (test b) (every test l) (every test m)))

pub value-append : (base : ℕ) (value : ℕ → ℕ) (a : ℕ) (l m : List ℕ)
    → value_from base value a (l ++ m) ≡ value_from base value (value_from base value a l) m
unfolding value_from
value-append base value a [] m = refl
value-append base value a (b ∷ l) m = value-append base value (a * base + value b) l m

-- ---- four hexadecimal digits

four-digits : (a b c d : ℕ) → a < 16 → b < 16 → c < 16 → d < 16 →
    let l = hex_digit a ∷ hex_digit b ∷ hex_digit c ∷ hex_digit d ∷ [] in
    (all_hex_digits l ≡ true) × (value_from 16 hex_digit_value 0 l ≡ ((a * 16 + b) * 16 + c) * 16 + d)
unfolding every value_from
four-digits a b c d ha hb hc hd =
    let A = hex-written a ha in
    let B = hex-written b hb in
    let C = hex-written c hc in
    let D = hex-written d hd in
    (rw (A.0, B.0, C.0, D.0), omega (arith, A.1, B.1, C.1, D.1))

last-digit : (n m : ℕ) → n / 16 ≡ m → m * 16 + n % 16 ≡ n
last-digit n m e = omega arith

pub word-written : (v : ℕ) → v < 65536 → hex_word (hex4 v) ≡ Some v
unfolding hex4
word-written v h =
    let p = four-digits (v / 4096 % 16) (v / 256 % 16) (v / 16 % 16) (v % 16) (omega arith) (omega arith) (omega arith) (omega arith) in
    let top : v / 4096 % 16 ≡ v / 4096 = omega arith in
    let third = last-digit (v / 256) (v / 4096) (div-div-eq-div-mul v 256 16) in
    let second = last-digit (v / 16) (v / 256) (div-div-eq-div-mul v 16 16) in
    let first = last-digit v (v / 16) refl in
    word-is (hex4 v) v refl p.0 (p.1 ∙ rw (top, third, second, first))

word-read-4 : (a b c d : ℕ) → all_hex_digits (a ∷ b ∷ c ∷ d ∷ []) ≡ true → hex4 (hex_value (a ∷ b ∷ c ∷ d ∷ [])) ≡ a ∷ b ∷ c ∷ d ∷ []
unfolding hex4 hex_value value_from every
word-read-4 a b c d e =
    let A = both_true (is_hex_digit a) _ e in
    let B = both_true (is_hex_digit b) _ A.1 in
    let C = both_true (is_hex_digit c) _ B.1 in
    let D = both_true (is_hex_digit d) _ C.1 in
    let x = hex_digit_value a in
    let y = hex_digit_value b in
    let z = hex_digit_value c in
    let w = hex_digit_value d in
    let hx = hex-value-bound a A.0 in
    let hy = hex-value-bound b B.0 in
    let hz = hex-value-bound c C.0 in
    let hw = hex-value-bound d D.0 in
    let v : ℕ = (((0 * 16 + x) * 16 + y) * 16 + z) * 16 + w in
    let p : v / 4096 % 16 ≡ x = omega arith in
    let q : v / 256 % 16 ≡ y = omega arith in
    let r : v / 16 % 16 ≡ z = omega arith in
    let s : v % 16 ≡ w = omega arith in
    rw (p, q, r, s, hex-read a A.0, hex-read b B.0, hex-read c C.0, hex-read d D.0)

pub word_read : (l : List ℕ) → is_hex_word l ≡ true → hex4 (hex_value l) ≡ l
unfolding is_hex_word
word_read l e =
    let p = both_true (eqb (length l) 4) (all_hex_digits l) e in
    go l (eqb-true (length l) 4 p.0) p.1
  where
    go : (l : List ℕ) → length l ≡ 4 → all_hex_digits l ≡ true → hex4 (hex_value l) ≡ l
    go [] h e = absurd (omega arith)
    go (a ∷ []) h e = absurd (omega arith)
    go (a ∷ b ∷ []) h e = absurd (omega arith)
    go (a ∷ b ∷ c ∷ []) h e = absurd (omega arith)
    go (a ∷ b ∷ c ∷ d ∷ []) h e = word-read-4 a b c d e
    go (a ∷ b ∷ c ∷ d ∷ x ∷ l) h e = absurd (omega arith)

-- ---- a decimal id, written and read

digit-written : (n : ℕ) → n < 10 → is_digit_byte (0x30 + n) ≡ true
digit-written n h = eq-eqb (class_of (0x30 + n)) 1 (class-digit (0x30 + n) (omega arith) (omega arith))

decimal-more : (k v : ℕ) → 10 ≤ v → decimal_within (suc k) v ≡ decimal_within k (v / 10) ++ ((0x30 + v % 10) ∷ [])
unfolding decimal_within
decimal-more k v h = rw (le-ltb v 10 h)

decimal-nonempty-within : (k v : ℕ) → 0 < k → 0 < length (decimal_within k v)
unfolding decimal_within
decimal-nonempty-within zero v h = absurd (omega arith)
decimal-nonempty-within (suc k) v h = simp length-append (omega arith)

decimal-digits : (k v : ℕ) → v < 10 ^ k → (all_digits (decimal_within k v) ≡ true) × (value_from 10 digit_value 0 (decimal_within k v) ≡ v)
unfolding decimal_within every value_from
decimal-digits zero v h = (refl, omega arith)
decimal-digits (suc k) v h = go (dec_lt v 10) (λ b. decimal-digits k (v / 10) b)
  where
    go : Dec (v < 10)
        → (v / 10 < 10 ^ k
        → (all_digits (decimal_within k (v / 10)) ≡ true) × (value_from 10 digit_value 0 (decimal_within k (v / 10)) ≡ v / 10))
        → (all_digits (decimal_within (suc k) v) ≡ true) × (value_from 10 digit_value 0 (decimal_within (suc k) v) ≡ v)
    go (yes p) ih =
        let e = decimal-end k v p in
        (ap all_digits e ∙ rw (digit-written v p), ap (value_from 10 digit_value 0) e ∙ omega arith)
    go (no p) ih =
        let e = decimal-more k v (omega arith) in
        let i = ih (digits-fewer k v (omega arith) h).1 in (
          ap all_digits e
              ∙ every_append is_digit_byte (decimal_within k (v / 10)) ((0x30 + v % 10) ∷ [])
              ∙ rw (i.0, digit-written (v % 10) (omega arith)),
          ap (value_from 10 digit_value 0) e
              ∙ value-append 10 digit_value 0 (decimal_within k (v / 10)) ((0x30 + v % 10) ∷ [])
              ∙ rw i.1 (omega arith),
        )

decimal-first : (k v : ℕ) → 0 < v → v < 10 ^ k → get_or (decimal_within k v) 0 0 ≡ 0x30 → ⊥
decimal-first zero v h b = λ q. omega arith
decimal-first (suc k) v h b = go (dec_lt v 10) (λ i j. decimal-first k (v / 10) i j)
  where
    go : Dec (v < 10) → (0 < v / 10 → v / 10 < 10 ^ k → get_or (decimal_within k (v / 10)) 0 0 ≡ 0x30 → ⊥)
        → get_or (decimal_within (suc k) v) 0 0 ≡ 0x30 → ⊥
    go (yes p) ih q = let e = decimal-end k v p in omega (arith, ap (λ (l : List ℕ). get_or l 0 0) e)
    go (no p) ih q =
        let e = decimal-more k v (omega arith) in
        let f = digits-fewer k v (omega arith) b in
        let s = get_or-append (decimal_within k (v / 10)) ((0x30 + v % 10) ∷ []) 0 0 (decimal-nonempty-within k (v / 10) f.0) in
        ih (omega arith) f.1 (sym s ∙ sym (ap (λ (l : List ℕ). get_or l 0 0) e) ∙ q)

first-written : (v : ℕ) → v < 10 ^ 20 → (length (decimal v) ≡ 1) ⊎ (get_or (decimal v) 0 0 ≡ 0x30 → ⊥)
unfolding decimal
first-written v b = go (dec_lt 0 v)
  where
    go : Dec (0 < v) → (length (decimal v) ≡ 1) ⊎ (get_or (decimal v) 0 0 ≡ 0x30 → ⊥)
    go (yes p) = inr (decimal-first 20 v p b)
    go (no p) = inl (ap length (decimal-end 19 v (omega arith)))

pub id-written : (v : ℕ) → v < 2 ^ 64 → segment_id_of (decimal v) ≡ Some v
unfolding decimal
id-written v h =
    let b : v < 10 ^ 20 = omega arith in
    let p = decimal-digits 20 v b in
    id-is (decimal v) v (decimal_nonempty v) (first-written v b) p.0 p.1 h

-- ---- a decimal id, read and written

value_low : (a : ℕ) (l : List ℕ) → a * 10 ^ length l ≤ value_from 10 digit_value a l
unfolding value_from
value_low a [] = omega arith
value_low a (b ∷ l) =
    let h : a * 10 * 10 ^ length l ≤ (a * 10 + digit_value b) * 10 ^ length l = mul-le-mul_right (10 ^ length l) (omega arith) in
    rw (pow-succ', ← mul_assoc) (le_trans h (value_low (a * 10 + digit_value b) l))

decimal-behind : (k a : ℕ) (l : List ℕ) → 0 < a → all_digits l ≡ true
    → decimal_within (k + length l) (value_from 10 digit_value a l) ≡ decimal_within k a ++ l
unfolding value_from every
decimal-behind k a [] h e =
    let z : k + 0 ≡ k = omega arith in
    ap (λ (n : ℕ). decimal_within n a) z ∙ sym (append-nil (decimal_within k a))
decimal-behind k a (b ∷ l) h e =
    let p = both_true (is_digit_byte b) (all_digits l) e in
    let q = digit-bounds b (eqb-true (class_of b) 1 p.0) in
    let v : ℕ = a * 10 + digit_value b in
    let f : k + suc (length l) ≡ suc k + length l = omega arith in
    let x : v / 10 ≡ a = omega arith in
    let y : 0x30 + v % 10 ≡ b = omega arith in
    let g : decimal_within (suc k) v ≡ decimal_within k a ++ (b ∷ []) = decimal-more k v (omega arith) ∙ rw (x, y) in
    ap (λ (n : ℕ). decimal_within n (value_from 10 digit_value v l)) f
    ∙ decimal-behind (suc k) v l (omega arith) p.1
    ∙ ap (λ (m : List ℕ). m ++ l) g
    ∙ append_assoc (decimal_within k a) (b ∷ []) l

-- the digits behind the first, which is not 0, are fewer than 20
fewer-than-20 : (a : ℕ) (l : List ℕ) → 0 < a → value_from 10 digit_value a l < 2 ^ 64 → length l < 20
fewer-than-20 a l h b = go (dec_lt (length l) 20)
  where
    go : Dec (length l < 20) → length l < 20
    go (yes p) = p
    go (no p) =
        let u : 10 ^ 20 ≤ 10 ^ length l = pow-le-pow_right {n = 10} (omega arith) {i = 20} {j = length l} (omega arith) in
        let v : 1 * 10 ^ length l ≤ a * 10 ^ length l = mul-le-mul_right (10 ^ length l) (omega arith) in
        absurd (omega (arith, value_low a l))

-- what an id has
id-parts : (l : List ℕ) → is_segment_id l ≡ true
    → (all_digits l ≡ true) × ((eqb (length l) 1 || not (eqb (get_or l 0 0) 0x30)) ≡ true) × (value_from 10 digit_value 0 l < 2 ^ 64)
unfolding is_segment_id decimal_value
id-parts l e =
    let p = both_true (non_empty l) _ e in
    let q = both_true (all_digits l) _ p.1 in
    let r = both_true (eqb (length l) 1 || not (eqb (get_or l 0 0) 0x30)) _ q.1 in
    (q.0, r.0, ltb-true (value_from 10 digit_value 0 l) (2 ^ 64) r.1)

first-bounds : (b : ℕ) (m : List ℕ) → all_digits (b ∷ m) ≡ true → (0x30 ≤ b) × (b ≤ 0x39) × (all_digits m ≡ true)
unfolding every
first-bounds b m e =
    let p = both_true (is_digit_byte b) (all_digits m) e in
    let q = digit-bounds b (eqb-true (class_of b) 1 p.0) in
    (q.0, q.1, p.1)

one-digit : (b : ℕ) → 0x30 ≤ b → b ≤ 0x39 → decimal_within 20 (value_from 10 digit_value 0 (b ∷ [])) ≡ b ∷ []
unfolding value_from
one-digit b h k =
    let v : ℕ = 0 * 10 + digit_value b in
    let f : 0x30 + v ≡ b = omega arith in
    decimal-end 19 v (omega arith) ∙ rw f

more-digits : (b : ℕ) (m : List ℕ) → 0x30 < b → b ≤ 0x39 → all_digits m ≡ true → value_from 10 digit_value 0 (b ∷ m) < 2 ^ 64
    → decimal_within 20 (value_from 10 digit_value 0 (b ∷ m)) ≡ b ∷ m
unfolding value_from
more-digits b m h k e u =
    let a : ℕ = 0 * 10 + digit_value b in
    let f = fewer-than-20 a m (omega arith) u in
    let n : 20 ≡ suc (19 - length m) + length m = omega arith in
    let d : 0x30 + a ≡ b = omega arith in
    let first : decimal_within (suc (19 - length m)) a ≡ b ∷ [] = decimal-end (19 - length m) a (omega arith) ∙ rw d in
    ap (λ (i : ℕ). decimal_within i (value_from 10 digit_value a m)) n
    ∙ decimal-behind (suc (19 - length m)) a m (omega arith) e
    ∙ ap (λ (l : List ℕ). l ++ m) first

empty-id : is_segment_id [] ≡ false
unfolding is_segment_id
empty-id = refl

not-zero : (b c : ℕ) (m : List ℕ) → 0x30 ≤ b → (eqb (length (b ∷ c ∷ m)) 1 || not (eqb b 0x30)) ≡ true → 0x30 < b
not-zero b c m h e = go (dec_lt 0x30 b)
  where
    go : Dec (0x30 < b) → 0x30 < b
    go (yes p) = p
    go (no p) =
        let z : b ≡ 0x30 = omega arith in
        let l : eqb (length (b ∷ c ∷ m)) 1 ≡ false = ne_eqb (length (b ∷ c ∷ m)) 1 (λ q. omega arith) in
        let f = rw (l, eq-eqb b 0x30 z) at e in
        absurd (true≢false (sym f))

pub id-read : (l : List ℕ) → is_segment_id l ≡ true → decimal (decimal_value l) ≡ l
unfolding decimal decimal_value
id-read [] e = absurd (true≢false (sym e ∙ empty-id))
id-read (b ∷ []) e =
    let p = id-parts (b ∷ []) e in
    let q = first-bounds b [] p.0 in
    one-digit b q.0 q.1
id-read (b ∷ c ∷ m) e =
    let p = id-parts (b ∷ c ∷ m) e in
    let q = first-bounds b (c ∷ m) p.0 in
    more-digits b (c ∷ m) (not-zero b c m q.0 p.1) q.1 q.2 p.2
