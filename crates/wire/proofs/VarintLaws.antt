-- Laws of `varint_of`, and of a loop that reads it byte by byte, over plain lists and numbers.
--
-- In order: the cases of `varint_within` (`within-nil`, `within_more`, `within-ends`, `within-last`, `within-over`); the varint behind i
-- bytes that are read already (`shifted`, and its cases at byte i of a part, from `shifted_start` on); no byte and one byte (`varint-nil`,
-- `varint-one`), and one or two that another follows (`varint-behind-one`, `varint-behind-two`); the weight of byte i and the bounds that
-- keep the sum in 64 bits (`weight-next`, `weight-le`, `sum_below`, `sum-fits-63`, `sum-fits-64`); a varint's length (`varint-size`) and
-- its value (`varint-fits`).
--
-- A caller that goes on behind a varint needs `varint-size` and `varint-fits` alone; the rest serves the readers.
-- Assumes nothing.
use Rattle.std.specs.Prelude.{Option, Some, None}
use Prim.Native.Nat.{ℕ, zero, suc, ◌+◌, ◌-◌, ◌*◌, ◌^◌, ◌≤◌, ◌<◌}
use native.Mathlib.Nat.{mul-le-mul_left}
use native.Mathlib.Numerals.{add-one}
use native.Mathlib.Omega.{arith}
use mathlib.Core.Path.{◌≡◌, refl, sym, ap, subst, ◌∙◌}
use mathlib.Core.List.{List, [], ◌∷◌}
use lib.ListN.{length, drop, get_or, drop_of_length-le}
use lib.Seq.{drop-cons}
use lib.Pow.{pow_mono, pow-add}
use lib.Dec.{ltb, leb}
use borrow.Author.Tests.{le-ltb, lt-ltb, le-leb, lt-leb, ltb-true, leb-true}
use Rattle.slice.proofs.PartLaws.{Bytes}
use Rattle.wire.specs.Varints.{more, ends, varint_within, varint_of}
use Rattle.wire.proofs.CondLaws.{cond_cases}

-- ---- the cases of the definition

pub within-nil : (n : ℕ) → varint_within n [] ≡ None
within-nil zero = refl
within-nil (suc n) = refl

module _ (b : ℕ) (l : List ℕ) where
  -- another byte follows
  pub within_more : (n : ℕ) → 128 ≤ b → varint_within (suc n) (b ∷ l) ≡ more b (varint_within n l)
  within_more n h = rw (le-ltb b 128 h)

  -- the byte ends the varint, and is not the last that is allowed
  pub within-ends : (n : ℕ) → b < 128 → varint_within (suc (suc n)) (b ∷ l) ≡ Some (b, 1)
  within-ends n h = rw (lt-ltb b 128 h)

  -- the last byte that is allowed
  pub within-last : b ≤ 1 → varint_within 1 (b ∷ l) ≡ Some (b, 1)
  within-last h = rw (lt-ltb b 128 (omega arith), le-leb b 1 h)

  pub within-over : 1 < b → varint_within 1 (b ∷ l) ≡ None
  within-over h = rw (lt-leb b 1 h) (cond_cases (λ r. r ≡ None) (ltb b 128) None None (λ e. refl) (λ e. refl))

-- ---- a varint whose first bytes are read already

-- the varint r behind i bytes of value a, where w is the weight of its first byte
abbrev pub shift : ℕ → ℕ → ℕ → Option (ℕ × ℕ) → Option (ℕ × ℕ)
shift a w i (Some (v, n)) = Some (a + w * v, i + n)
shift a w i None = None

-- the varint of s, of which i bytes, of value a, are read, and w is the weight of byte i
abbrev pub shifted : List ℕ → ℕ → ℕ → ℕ → Option (ℕ × ℕ)
shifted s i a w = shift a w i (varint_within (10 - i) (drop i s))

shift_none : (r : Option (ℕ × ℕ)) → shift 0 1 0 r ≡ r
shift_none (Some (v, n)) =
    let p : 0 + 1 * v ≡ v = omega arith in
    let q : 0 + n ≡ n = omega arith in
    cc
shift_none None = refl

regroup : (a w x v : ℕ) → a + w * (x + 128 * v) ≡ a + w * x + w * 128 * v
regroup a w x v = omega arith

shift-more : (a w i b : ℕ) (r : Option (ℕ × ℕ)) → shift a w i (more b r) ≡ shift (a + w * (b - 128)) (w * 128) (i + 1) r
shift-more a w i b (Some (v, n)) = let p : i + (n + 1) ≡ i + 1 + n = omega arith in cc (regroup a w (b - 128) v)
shift-more a w i b None = refl

drop-next : (s : List ℕ) (i : ℕ) → i < length s → drop i s ≡ get_or s i 0 ∷ drop (i + 1) s
drop-next s i h = rw (add-one, drop-cons s i 0)

pub shifted_start : (s : List ℕ) → varint_of s ≡ shifted s 0 0 1
unfolding varint_of
shifted_start s = sym (shift_none (varint_within 10 s))

module _ (s : List ℕ) (i a w : ℕ) where
  -- the part ends before the varint does
  pub shifted-short : length s ≤ i → shifted s i a w ≡ None
  shifted-short h = rw (drop_of_length-le s h, within-nil (10 - i))

  -- byte i, which another follows
  pub shifted-turn : i < 9 → i < length s → 128 ≤ get_or s i 0
      → shifted s i a w ≡ shifted s (i + 1) (a + w * (get_or s i 0 - 128)) (w * 128)
  shifted-turn h k g =
      let e : 10 - i ≡ suc (10 - (i + 1)) = omega arith in
      rw (e, drop-next s i k, within_more (get_or s i 0) (drop (i + 1) s) (10 - (i + 1)) g)
      (shift-more a w i (get_or s i 0) (varint_within (10 - (i + 1)) (drop (i + 1) s)))

  -- byte i ends the varint
  pub shifted-ends : i < 9 → i < length s → get_or s i 0 < 128 → shifted s i a w ≡ Some (a + w * get_or s i 0, i + 1)
  shifted-ends h k g =
      let e : 10 - i ≡ suc (suc (8 - i)) = omega arith in
      rw (e, drop-next s i k, within-ends (get_or s i 0) (drop (i + 1) s) (8 - i) g)

  -- the tenth byte
  pub shifted-last : i ≡ 9 → 9 < length s → get_or s 9 0 ≤ 1 → shifted s i a w ≡ Some (a + w * get_or s 9 0, 10)
  shifted-last e k g = rw (e, drop-next s 9 k, within-last (get_or s 9 0) (drop 10 s) g)

  pub shifted-over : i ≡ 9 → 9 < length s → 1 < get_or s 9 0 → shifted s i a w ≡ None
  shifted-over e k g = rw (e, drop-next s 9 k, within-over (get_or s 9 0) (drop 10 s) g)

-- ---- no byte, one byte, and the first bytes

module _ (s : List ℕ) where
  pub varint-nil : length s ≤ 0 → varint_of s ≡ None
  varint-nil h = shifted_start s ∙ shifted-short s 0 0 1 h

  pub varint-one : 0 < length s → get_or s 0 0 < 128 → varint_of s ≡ Some (get_or s 0 0, 1)
  unfolding varint_of
  varint-one h g = rw (drop-next s 0 h) (within-ends (get_or s 0 0) (drop 1 s) 8 g)

  -- one byte, or two, that another follows
  module _ (h : 0 < length s) (g : 128 ≤ get_or s 0 0) where
    pub varint-behind-one : varint_of s ≡ shifted s 1 (get_or s 0 0 - 128) 128
    varint-behind-one =
        let e : 0 + 1 * (get_or s 0 0 - 128) ≡ get_or s 0 0 - 128 = omega arith in
        shifted_start s ∙ shifted-turn s 0 0 1 (omega arith) h g ∙ rw e

    pub varint-behind-two : 1 < length s → 128 ≤ get_or s 1 0
        → varint_of s ≡ shifted s 2 (get_or s 0 0 - 128 + 128 * (get_or s 1 0 - 128)) 16384
    varint-behind-two k f = varint-behind-one ∙ shifted-turn s 1 (get_or s 0 0 - 128) 128 (omega arith) k f

-- ---- weights and sums

pub weight-next : (i : ℕ) → 2 ^ (7 * i) * 128 ≡ 2 ^ (7 * (i + 1))
weight-next i = let e : 7 * (i + 1) ≡ 7 * i + 7 = omega arith in sym (ap (λ (k : ℕ). 2 ^ k) e ∙ pow-add 2 (7 * i) 7)

pub weight-le : (i k : ℕ) → i ≤ k → 2 ^ (7 * i) ≤ 2 ^ (7 * k)
weight-le i k h = pow_mono {i = 7 * i} {j = 7 * k} (omega arith)

-- a sum below the weight w, and a digit of at most k at that weight
pub sum_below : (a w b k : ℕ) → a < w → b ≤ k → a + w * b < w * suc k
sum_below a w b k h g = omega (arith, mul-le-mul_left w g)

module _ (a w b i : ℕ) (e : w ≡ 2 ^ (7 * i)) (h : a < w) where
  -- at one of the first nine bytes
  pub sum-fits-63 : i < 9 → b < 128 → a + w * b < 2 ^ 63
  sum-fits-63 k g = omega (arith, sum_below a w b 127 h (omega arith), weight-le i 8 (omega arith))

  -- at the tenth byte too
  pub sum-fits-64 : i ≤ 9 → b ≤ 1 → a + w * b < 2 ^ 64
  sum-fits-64 k g = omega (arith, sum_below a w b 1 h g, weight-le i 9 k)

-- ---- length and value

-- a varint's length: at least 1, and at most m
abbrev pub VarintSized : ℕ → Option (ℕ × ℕ) → Type 0
VarintSized m (Some (v, n)) = (1 ≤ n) × (n ≤ m)
VarintSized m None = Unit {0}

sized-ends : (m n b : ℕ) → VarintSized (suc m) (ends n b)
sized-ends m zero b = cond_cases (VarintSized (suc m)) (leb b 1) (Some (b, 1)) None (λ e. omega arith) (λ e. tt)
sized-ends m (suc n) b = omega arith

sized-more : (m b : ℕ) (r : Option (ℕ × ℕ)) → VarintSized m r → VarintSized (suc m) (more b r)
sized-more m b (Some (v, n)) h = omega arith
sized-more m b None h = tt

sized-within : (n : ℕ) (l : List ℕ) → VarintSized (length l) (varint_within n l)
sized-within zero l = tt
sized-within (suc n) [] = tt
sized-within (suc n) (b ∷ l) =
    let p = sized-within n l in
    cond_cases (VarintSized (suc (length l))) (ltb b 128) (ends n b) (more b (varint_within n l)) (λ e. sized-ends (length l) n b)
    (λ e. sized-more (length l) b (varint_within n l) p)

pub varint-sized : (l : List ℕ) → VarintSized (length l) (varint_of l)
unfolding varint_of
varint-sized l = sized-within 10 l

pub varint-size : (l : List ℕ) (v n : ℕ) → varint_of l ≡ Some (v, n) → (1 ≤ n) × (n ≤ length l)
varint-size l v n e = subst (VarintSized (length l)) e (varint-sized l)

-- a varint's value is below m
abbrev pub VarintBelow : ℕ → Option (ℕ × ℕ) → Type 0
VarintBelow m (Some (v, n)) = v < m
VarintBelow m None = Unit {0}

below_more : (m b : ℕ) (r : Option (ℕ × ℕ)) → b < 256 → VarintBelow m r → VarintBelow (m * 128) (more b r)
below_more m b (Some (v, n)) h g = omega arith
below_more m b None h g = tt

below_next : (n : ℕ) → 2 ^ (7 * n + 1) * 128 ≡ 2 ^ (7 * suc n + 1)
below_next n = let e : 7 * suc n + 1 ≡ 7 * n + 1 + 7 = omega arith in sym (ap (λ (k : ℕ). 2 ^ k) e ∙ pow-add 2 (7 * n + 1) 7)

-- the last of n + 1 bytes holds one bit
below-within : (n : ℕ) (l : List ℕ) → Bytes l → VarintBelow (2 ^ (7 * n + 1)) (varint_within (suc n) l)
below-within n [] h = tt
below-within zero (b ∷ l) h =
    cond_cases (VarintBelow 2) (ltb b 128) (ends 0 b) None
    (λ e. cond_cases (VarintBelow 2) (leb b 1) (Some (b, 1)) None (λ g. omega (arith, leb-true b 1 g)) (λ g. tt))
    (λ e. tt)
below-within (suc n) (b ∷ l) h =
    let p = below-within n l (λ k. h (suc k)) in
    rw (← below_next n)
    (cond_cases (VarintBelow (2 ^ (7 * n + 1) * 128)) (ltb b 128) (Some (b, 1)) (more b (varint_within (suc n) l))
    (λ e. omega (arith, ltb-true b 128 e, pow_mono {i = 0} {j = 7 * n + 1} (omega arith)))
    (λ e. below_more (2 ^ (7 * n + 1)) b (varint_within (suc n) l) (h 0) p))

pub varint-fits : (l : List ℕ) → Bytes l → (v n : ℕ) → varint_of l ≡ Some (v, n) → v < 2 ^ 64
unfolding varint_of
varint-fits l h v n e = subst (VarintBelow (2 ^ 64)) e (below-within 9 l h)
