-- Each step of the hash undone, and redone, on words: numbers below 2 ^ 32.
--
-- In order: sums and products are words (`mul-word`, `add-word`); a product by a number and by its inverse (`mul-undo`,
-- at the numbers by computation); rotations, the sum and shifts (`turn-15` to `undo-shift-word`); then `scramble`,
-- `fmix` and `mix` with the hash 0, each undone (`scramble-back`, ..) and redone (`scramble-forth`, ..), and that each
-- gives a word.
-- Assumes nothing.
use Rattle.std.proofs.Common.{◌≡◌, ℕ, ◌+◌, ◌-◌, ◌*◌, ◌/◌, ◌%◌, ◌^◌, ◌<◌, sym, refl, ap, ◌∙◌, lt_of_le_of_lt, mod-eq_of_lt, mul_assoc, add-mul, div-add-mod', mul-one, mul-add, mul_right_comm, arith}
use native.Mathlib.Nat.{mul-add-mod_self_right}
use lib.Pow.{shr_le}
use Rattle.key_murmur3.specs.Words.{wrapping_add, wrapping_mul, rotate_left, xor_shift}
use Rattle.key_murmur3.specs.Murmur3.{scramble, mix, fmix}
use Rattle.key_for_hash.specs.Inverse.{undo_shift, undo_fmix, undo_scramble, undo_mix}
use Rattle.key_for_hash.proofs.XorLaws.{xor-none-l, xor-word, shift_back, shift-forth}

abbrev pub Word : ℕ → Type 0
Word x = x < 2 ^ 32

-- ---- words

mul-word : (a b : ℕ) → Word (wrapping_mul a b)
unfolding wrapping_mul
mul-word a b = omega arith

add-word : (a b : ℕ) → Word (wrapping_add a b)
unfolding wrapping_add
add-word a b = omega arith

-- ---- products

module _ (m w q : ℕ) (e : m * w ≡ q * 2 ^ 32 + 1) where
  -- x * m, cut to a word, times w: x, and a multiple of 2 ^ 32
  carried : (x : ℕ) → x * m / 2 ^ 32 * w * 2 ^ 32 + x * m % 2 ^ 32 * w ≡ x * q * 2 ^ 32 + x
  carried x =
      ap (λ (n : ℕ). n + x * m % 2 ^ 32 * w) (mul_right_comm (x * m / 2 ^ 32) w (2 ^ 32))
      ∙ sym (add-mul (x * m / 2 ^ 32 * 2 ^ 32) (x * m % 2 ^ 32) w)
      ∙ ap (λ (n : ℕ). n * w) (div-add-mod' (x * m) (2 ^ 32))
      ∙ mul_assoc x m w
      ∙ ap (λ (n : ℕ). x * n) e
      ∙ mul-add x (q * 2 ^ 32) 1
      ∙ ap (λ (n : ℕ). n + x * 1) (sym (mul_assoc x q (2 ^ 32)))
      ∙ ap (λ (n : ℕ). x * q * 2 ^ 32 + n) (mul-one x)

  mul-undo : (x : ℕ) → Word x → wrapping_mul (wrapping_mul x m) w ≡ x
  unfolding wrapping_mul
  mul-undo x h =
      sym (mul-add-mod_self_right (x * m / 2 ^ 32 * w) (2 ^ 32) (x * m % 2 ^ 32 * w))
      ∙ ap (λ (n : ℕ). n % 2 ^ 32) (carried x)
      ∙ mul-add-mod_self_right (x * q) (2 ^ 32) x
      ∙ mod-eq_of_lt h

-- ---- rotations, the sum, and shifts

module _ (x : ℕ) (h : Word x) where
  turn-15 : rotate_left (rotate_left x 15) 17 ≡ x
  unfolding rotate_left
  turn-15 = omega arith

  turn-17 : rotate_left (rotate_left x 17) 15 ≡ x
  unfolding rotate_left
  turn-17 = omega arith

  turn-13 : rotate_left (rotate_left x 13) 19 ≡ x
  unfolding rotate_left
  turn-13 = omega arith

  turn-19 : rotate_left (rotate_left x 19) 13 ≡ x
  unfolding rotate_left
  turn-19 = omega arith

  word-13 : Word (rotate_left x 13)
  unfolding rotate_left
  word-13 = omega arith

  word-15 : Word (rotate_left x 15)
  unfolding rotate_left
  word-15 = omega arith

  word-17 : Word (rotate_left x 17)
  unfolding rotate_left
  word-17 = omega arith

  word-19 : Word (rotate_left x 19)
  unfolding rotate_left
  word-19 = omega arith

  sum_back : wrapping_add (wrapping_add x 0xe6546b64) (2 ^ 32 - 0xe6546b64) ≡ x
  unfolding wrapping_add
  sum_back = omega arith

  sum-forth : wrapping_add (wrapping_add x (2 ^ 32 - 0xe6546b64)) 0xe6546b64 ≡ x
  unfolding wrapping_add
  sum-forth = omega arith

  gone-13 : x / 2 ^ 13 / 2 ^ 13 / 2 ^ 13 ≡ 0
  gone-13 = omega arith

  gone-16 : x / 2 ^ 16 / 2 ^ 16 / 2 ^ 16 ≡ 0
  gone-16 = omega arith

shr_word : (x d : ℕ) → Word x → Word (x / 2 ^ d)
shr_word x d h = lt_of_le_of_lt (shr_le x d) h

shift_word : (x k : ℕ) → Word x → Word (xor_shift x k)
unfolding xor_shift
shift_word x k h = xor-word x (x / 2 ^ k) h (shr_word x k h)

undo-shift-word : (x k : ℕ) → Word x → Word (undo_shift x k)
unfolding undo_shift
undo-shift-word x k h = xor-word x (xor_shift x k / 2 ^ k) h (shr_word (xor_shift x k) k (shift_word x k h))

-- ---- scramble

scramble-word : (k : ℕ) → Word (scramble k)
unfolding scramble
scramble-word k = mul-word _ _

undo-scramble-word : (k : ℕ) → Word (undo_scramble k)
unfolding undo_scramble
undo-scramble-word k = mul-word _ _

module _ (k : ℕ) (h : Word k) where
  scramble-back : undo_scramble (scramble k) ≡ k
  unfolding undo_scramble scramble
  scramble-back =
      let a : ℕ = wrapping_mul k 0xcc9e2d51 in
      let wa : Word a = mul-word k 0xcc9e2d51 in
      ap (λ (n : ℕ). wrapping_mul (rotate_left n 17) 0xdee13bb1) (mul-undo 0x1b873593 0x56ed309b 156822886 refl (rotate_left a 15) (word-15 a wa))
      ∙ ap (λ (n : ℕ). wrapping_mul n 0xdee13bb1) (turn-15 a wa)
      ∙ mul-undo 0xcc9e2d51 0xdee13bb1 2988782088 refl k h

  scramble-forth : scramble (undo_scramble k) ≡ k
  unfolding undo_scramble scramble
  scramble-forth =
      let a : ℕ = wrapping_mul k 0x56ed309b in
      let wa : Word a = mul-word k 0x56ed309b in
      ap (λ (n : ℕ). wrapping_mul (rotate_left n 15) 0x1b873593) (mul-undo 0xdee13bb1 0xcc9e2d51 2988782088 refl (rotate_left a 17) (word-17 a wa))
      ∙ ap (λ (n : ℕ). wrapping_mul n 0x1b873593) (turn-17 a wa)
      ∙ mul-undo 0x56ed309b 0x1b873593 156822886 refl k h

-- ---- fmix

module _ (h : ℕ) (w : Word h) where
  pub undo-fmix-word : Word (undo_fmix h)
  unfolding undo_fmix
  undo-fmix-word = undo-shift-word _ 16 (mul-word _ _)

  pub fmix-back : undo_fmix (fmix h) ≡ h
  unfolding undo_fmix fmix
  fmix-back =
      let a : ℕ = xor_shift h 16 in
      let b : ℕ = wrapping_mul a 0x85ebca6b in
      let d : ℕ = xor_shift b 13 in
      let e : ℕ = wrapping_mul d 0xc2b2ae35 in
      let wa : Word a = shift_word h 16 w in
      let wb : Word b = mul-word a 0x85ebca6b in
      let wd : Word d = shift_word b 13 wb in
      let we : Word e = mul-word d 0xc2b2ae35 in
      ap (λ (n : ℕ). undo_shift (wrapping_mul (undo_shift (wrapping_mul n 0x7ed1b41d) 13) 0xa5cb9243) 16) (shift_back e 16 (gone-16 e we))
      ∙ ap (λ (n : ℕ). undo_shift (wrapping_mul (undo_shift n 13) 0xa5cb9243) 16) (mul-undo 0xc2b2ae35 0x7ed1b41d 1618177690 refl d wd)
      ∙ ap (λ (n : ℕ). undo_shift (wrapping_mul n 0xa5cb9243) 16) (shift_back b 13 (gone-13 b wb))
      ∙ ap (λ (n : ℕ). undo_shift n 16) (mul-undo 0x85ebca6b 0xa5cb9243 1455126516 refl a wa)
      ∙ shift_back h 16 (gone-16 h w)

  pub fmix-forth : fmix (undo_fmix h) ≡ h
  unfolding undo_fmix fmix
  fmix-forth =
      let a : ℕ = undo_shift h 16 in
      let b : ℕ = wrapping_mul a 0x7ed1b41d in
      let d : ℕ = undo_shift b 13 in
      let e : ℕ = wrapping_mul d 0xa5cb9243 in
      let wa : Word a = undo-shift-word h 16 w in
      let wb : Word b = mul-word a 0x7ed1b41d in
      let wd : Word d = undo-shift-word b 13 wb in
      let we : Word e = mul-word d 0xa5cb9243 in
      ap (λ (n : ℕ). xor_shift (wrapping_mul (xor_shift (wrapping_mul n 0x85ebca6b) 13) 0xc2b2ae35) 16) (shift-forth e 16 (gone-16 e we))
      ∙ ap (λ (n : ℕ). xor_shift (wrapping_mul (xor_shift n 13) 0xc2b2ae35) 16) (mul-undo 0xa5cb9243 0x85ebca6b 1455126516 refl d wd)
      ∙ ap (λ (n : ℕ). xor_shift (wrapping_mul n 0xc2b2ae35) 16) (shift-forth b 13 (gone-13 b wb))
      ∙ ap (λ (n : ℕ). xor_shift n 16) (mul-undo 0x7ed1b41d 0xc2b2ae35 1618177690 refl a wa)
      ∙ shift-forth h 16 (gone-16 h w)

-- ---- mix with the hash 0

pub mix-word : (h k : ℕ) → Word (mix h k)
unfolding mix
mix-word h k = add-word _ _

pub undo-mix-word : (h : ℕ) → Word (undo_mix h)
unfolding undo_mix
undo-mix-word h = undo-scramble-word _

module _ (k : ℕ) (w : Word k) where
  pub mix-back : undo_mix (mix 0 k) ≡ k
  unfolding undo_mix mix
  mix-back =
      let a : ℕ = scramble k in
      let b : ℕ = rotate_left a 13 in
      let wa : Word a = scramble-word k in
      ap (λ (n : ℕ). undo_mix (wrapping_add (wrapping_mul (rotate_left n 13) 5) 0xe6546b64)) (xor-none-l a)
      ∙ ap (λ (n : ℕ). undo_scramble (rotate_left (wrapping_mul n 0xcccccccd) 19)) (sum_back (wrapping_mul b 5) (mul-word b 5))
      ∙ ap (λ (n : ℕ). undo_scramble (rotate_left n 19)) (mul-undo 5 0xcccccccd 4 refl b (word-13 a wa))
      ∙ ap undo_scramble (turn-13 a wa)
      ∙ scramble-back k w

  pub mix-forth : mix 0 (undo_mix k) ≡ k
  unfolding undo_mix mix
  mix-forth =
      let a : ℕ = wrapping_add k (2 ^ 32 - 0xe6546b64) in
      let b : ℕ = wrapping_mul a 0xcccccccd in
      let d : ℕ = rotate_left b 19 in
      let wb : Word b = mul-word a 0xcccccccd in
      ap (λ (n : ℕ). wrapping_add (wrapping_mul (rotate_left n 13) 5) 0xe6546b64)
      (xor-none-l (scramble (undo_scramble d)) ∙ scramble-forth d (word-19 b wb))
      ∙ ap (λ (n : ℕ). wrapping_add (wrapping_mul n 5) 0xe6546b64) (turn-19 b wb)
      ∙ ap (λ (n : ℕ). wrapping_add n 0xe6546b64) (mul-undo 0xcccccccd 5 4 refl a (add-word k (2 ^ 32 - 0xe6546b64)))
      ∙ sum-forth k w
