-- What the sum tells: a step loses nothing (`step-zero`, `step-injective`), nor does a byte taken in (`injective`), and so one byte that differs is
-- told (`one-byte-told`). The sum is a word (`crc-word`).
-- Assumes nothing.
use Prim.Native.Nat.{ℕ, zero, suc, ◌/◌, ◌%◌, ◌^◌, ◌<◌}
use native.Mathlib.Omega.{arith}
use mathlib.Core.Path.{◌≡◌, refl, sym, ap, ◌∙◌}
use mathlib.Core.Bool.{Bool, true, false, cond}
use mathlib.Core.List.{List, [], ◌∷◌}
use lib.ListN.{length, get_or, set}
use lib.Dec.{eqb, lit<}
use borrow.Author.Tests.{eqb-false}
use Rattle.key_murmur3.specs.Words.{xor}
use Rattle.key_for_hash.proofs.XorLaws.{xor-again, xor-word}
use Rattle.slice.specs.Bytes.{Bytes}
use Rattle.crc32.specs.Crc.{polynomial, step, steps, update, updates, crc32}
use Rattle.crc32.specs.Differs.{Injective, OneByteDiffers}
use Rattle.crc32.proofs.XorLaws.{xor_same, xor-zero, xor-cancel}
use Rattle.crc32.proofs.CrcLaws.{step-linear}

-- ---- words

by_word : (t : Bool) (m : ℕ) → m < 2 ^ 32 → cond t (xor polynomial m) m < 2 ^ 32
by_word true m h = xor-word polynomial m (lit< tt) h
by_word false m h = h

pub step-word : (c : ℕ) → c < 2 ^ 32 → step c < 2 ^ 32
unfolding step
step-word c h = by_word (eqb (c % 2) 1) (c / 2) (omega arith)

steps-word : (c : ℕ) → c < 2 ^ 32 → steps c < 2 ^ 32
unfolding steps
steps-word c h =
    step-word _ (step-word _ (step-word _ (step-word _ (step-word _ (step-word _ (step-word _ (step-word c h)))))))

pub update_word : (c b : ℕ) → c < 2 ^ 32 → b < 256 → update c b < 2 ^ 32
unfolding update
update_word c b h k = steps-word (xor c b) (xor-word c b h (omega arith))

-- ---- a step loses nothing

step-zero : (x : ℕ) → x < 2 ^ 32 → step x ≡ 0 → x ≡ 0
unfolding step
step-zero x h = go (eqb (x % 2) 1) refl
  where
    go : (t : Bool) → eqb (x % 2) 1 ≡ t → cond t (xor polynomial (x / 2)) (x / 2) ≡ 0 → x ≡ 0
    -- half of a word has no highest bit, and the polynomial has it
    go true e z = absurd (omega (arith, xor-zero polynomial (x / 2) z))
    go false e z = omega (arith, z, eqb-false (x % 2) 1 e)

step-injective : (a b : ℕ) → a < 2 ^ 32 → b < 2 ^ 32 → step a ≡ step b → a ≡ b
step-injective a b h k e =
    xor-zero a b
    (step-zero (xor a b) (xor-word a b h k)
    (step-linear a b ∙ ap (λ (n : ℕ). xor n (step b)) e ∙ xor_same (step b)))

steps-injective : (a b : ℕ) → a < 2 ^ 32 → b < 2 ^ 32 → steps a ≡ steps b → a ≡ b
unfolding steps
steps-injective a b h k e = eight 8 a b h k e
  where
    many : ℕ → ℕ → ℕ
    many zero c = c
    many (suc n) c = many n (step c)

    eight : (n a b : ℕ) → a < 2 ^ 32 → b < 2 ^ 32 → many n a ≡ many n b → a ≡ b
    eight zero a b h k e = e
    eight (suc n) a b h k e =
        step-injective a b h k (eight n (step a) (step b) (step-word a h) (step-word b k) e)

pub injective : Injective
unfolding update
injective =
    record {
      state =
          λ c d b hc hd hb e.
          let f : xor c b ≡ xor d b =
          steps-injective (xor c b) (xor d b) (xor-word c b hc (omega arith)) (xor-word d b hd (omega arith)) e in
          sym (xor-again c b) ∙ ap (λ (n : ℕ). xor n b) f ∙ xor-again d b;
      byte =
          λ c a b hc ha hb e.
          xor-cancel c a b
          (steps-injective (xor c a) (xor c b) (xor-word c a hc (omega arith)) (xor-word c b hc (omega arith)) e);
    }

-- ---- bytes

behind : (b : ℕ) (l : List ℕ) → Bytes (b ∷ l) → Bytes l
behind b l h i = h (suc i)

updates-word : (l : List ℕ) (c : ℕ) → Bytes l → c < 2 ^ 32 → updates c l < 2 ^ 32
unfolding updates
updates-word [] c h p = p
updates-word (b ∷ l) c h p = updates-word l (update c b) (behind b l h) (update_word c b p (h 0))

pub crc-word : (l : List ℕ) → Bytes l → crc32 l < 2 ^ 32
unfolding crc32
crc-word l h = xor-word (updates 0xFFFFFFFF l) 0xFFFFFFFF (updates-word l 0xFFFFFFFF h (lit< tt)) (lit< tt)

updates-state : (l : List ℕ) (c d : ℕ) → Bytes l → c < 2 ^ 32 → d < 2 ^ 32 → updates c l ≡ updates d l → c ≡ d
unfolding updates
updates-state [] c d h p q e = e
updates-state (b ∷ l) c d h p q e =
    injective.state c d b p q (h 0)
    (updates-state l (update c b) (update d b) (behind b l h) (update_word c b p (h 0)) (update_word d b q (h 0)) e)

updates-byte : (l : List ℕ) (c i v : ℕ) → Bytes l → c < 2 ^ 32 → i < length l → v < 256 → updates c (set l i v) ≡ updates c l
    → v ≡ get_or l i 0
unfolding updates
updates-byte [] c i v h p q k e = absurd (omega arith)
updates-byte (b ∷ l) c zero v h p q k e =
    injective.byte c v b p k (h 0)
    (updates-state l (update c v) (update c b) (behind b l h) (update_word c v p k) (update_word c b p (h 0)) e)
updates-byte (b ∷ l) c (suc i) v h p q k e =
    updates-byte l (update c b) i v (behind b l h) (update_word c b p (h 0)) (omega arith) k e

pub one-byte-told : OneByteDiffers
unfolding crc32
one-byte-told l i v h q k e =
    updates-byte l 0xFFFFFFFF i v h (lit< tt) q k
    (sym (xor-again (updates 0xFFFFFFFF (set l i v)) 0xFFFFFFFF)
    ∙ ap (λ (n : ℕ). xor n 0xFFFFFFFF) e
    ∙ xor-again (updates 0xFFFFFFFF l) 0xFFFFFFFF)
