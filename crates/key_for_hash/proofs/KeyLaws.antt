-- The key that has a hash: it has it, and no other four bytes have it (`always-one`).
--
-- In order: the hash of four bytes by their block (`four-hash`); a block and its bytes (`block-bytes`, `bytes-block`);
-- the key has the hash (`key-hash`); no other has it (`key-only`).
-- Assumes nothing.
use Rattle.std.proofs.Common.{◌≡◌, ℕ, zero, suc, ◌+◌, ◌*◌, ◌/◌, ◌%◌, ◌<◌, List, [], ◌∷◌, length, sym, refl, ap, ◌∙◌, arith, lit<}
use Rattle.slice.proofs.PartLaws.{Bytes}
use Rattle.key_murmur3.specs.Words.{xor}
use Rattle.key_murmur3.specs.Murmur3.{low_first, mix, blocks, fmix, murmur3}
use Rattle.key_for_hash.specs.Inverse.{key_bytes, undo_fmix, undo_mix, block_for_hash, key_of_block, key_for_hash}
use Rattle.key_for_hash.specs.OneKey.{AlwaysOne}
use Rattle.key_for_hash.proofs.XorLaws.{xor-again, xor-word}
use Rattle.key_for_hash.proofs.StepLaws.{Word, fmix-back, fmix-forth, undo-fmix-word, mix-word, mix-back, mix-forth, undo-mix-word}

-- the hash of four bytes, by their block
four-hash : (a b c d : ℕ) → murmur3 (a ∷ b ∷ c ∷ d ∷ []) ≡ fmix (xor (mix 0 (low_first (a ∷ b ∷ c ∷ d ∷ []))) 4)
unfolding murmur3 blocks
four-hash a b c d = refl

-- ---- a block and its bytes

block-bytes : (k : ℕ) → Word k → low_first (key_bytes (key_of_block k)) ≡ k
unfolding low_first key_of_block
block-bytes k h = omega arith

bytes-block : (a b c d : ℕ) → a < 256 → b < 256 → c < 256 → d < 256
    → key_of_block (low_first (a ∷ b ∷ c ∷ d ∷ [])) ≡ record { first = a; second = b; third = c; fourth = d }
unfolding low_first key_of_block
bytes-block a b c d ha hb hc hd =
    let k : ℕ = a + 256 * (b + 256 * (c + 256 * (d + 256 * 0))) in
    let p : k % 256 ≡ a = omega arith in
    let q₁ : k / 256 ≡ b + 256 * (c + 256 * d) = omega arith in
    let q : k / 256 % 256 ≡ b = ap (λ (n : ℕ). n % 256) q₁ ∙ omega arith in
    let r₁ : k / 65536 ≡ c + 256 * d = omega arith in
    let r : k / 65536 % 256 ≡ c = ap (λ (n : ℕ). n % 256) r₁ ∙ omega arith in
    let s : k / 16777216 ≡ d = omega arith in
    cc

low_word : (a b c d : ℕ) → a < 256 → b < 256 → c < 256 → d < 256 → Word (low_first (a ∷ b ∷ c ∷ d ∷ []))
unfolding low_first
low_word a b c d ha hb hc hd = omega arith

four_bytes : (k : ℕ) → Word k → Bytes (key_bytes (key_of_block k))
unfolding key_of_block
four_bytes k w zero = omega arith
four_bytes k w (suc zero) = omega arith
four_bytes k w (suc (suc zero)) = omega arith
four_bytes k w (suc (suc (suc zero))) = omega arith
four_bytes k w (suc (suc (suc (suc i)))) = lit< tt

-- ---- the key has the hash

key-hash : (h : ℕ) → Word h → murmur3 (key_bytes (key_for_hash h)) ≡ h
unfolding key_for_hash block_for_hash
key-hash h w =
    let u : ℕ = xor (undo_fmix h) 4 in
    let wu : Word u = xor-word (undo_fmix h) 4 (undo-fmix-word h w) (lit< tt) in
    four-hash _ _ _ _
    ∙ ap (λ (n : ℕ). fmix (xor (mix 0 n) 4)) (block-bytes (undo_mix u) (undo-mix-word u))
    ∙ ap (λ (n : ℕ). fmix (xor n 4)) (mix-forth u wu)
    ∙ ap fmix (xor-again (undo_fmix h) 4)
    ∙ fmix-forth h w

-- ---- and no other

block_back : (k : ℕ) → Word k → block_for_hash (fmix (xor (mix 0 k) 4)) ≡ k
unfolding block_for_hash
block_back k w =
    let m : ℕ = mix 0 k in
    ap (λ (n : ℕ). undo_mix (xor n 4)) (fmix-back (xor m 4) (xor-word m 4 (mix-word 0 k) (lit< tt)))
    ∙ ap undo_mix (xor-again m 4)
    ∙ mix-back k w

four-only : (a b c d : ℕ) → a < 256 → b < 256 → c < 256 → d < 256
    → key_for_hash (murmur3 (a ∷ b ∷ c ∷ d ∷ [])) ≡ record { first = a; second = b; third = c; fourth = d }
unfolding key_for_hash
four-only a b c d ha hb hc hd =
    ap (λ (h : ℕ). key_of_block (block_for_hash h)) (four-hash a b c d)
    ∙ ap key_of_block (block_back (low_first (a ∷ b ∷ c ∷ d ∷ [])) (low_word a b c d ha hb hc hd))
    ∙ bytes-block a b c d ha hb hc hd

key-only : (h : ℕ) (l : List ℕ) → length l ≡ 4 → Bytes l → murmur3 l ≡ h → l ≡ key_bytes (key_for_hash h)
key-only h [] e b m = absurd (omega arith)
key-only h (p ∷ []) e b m = absurd (omega arith)
key-only h (p ∷ q ∷ []) e b m = absurd (omega arith)
key-only h (p ∷ q ∷ r ∷ []) e b m = absurd (omega arith)
key-only h (p ∷ q ∷ r ∷ s ∷ []) e b m = sym (ap key_bytes (ap key_for_hash (sym m) ∙ four-only p q r s (b 0) (b 1) (b 2) (b 3)))
key-only h (p ∷ q ∷ r ∷ s ∷ t ∷ l) e b m = absurd (omega arith)

pub always-one : AlwaysOne
unfolding key_for_hash block_for_hash
always-one h w = record { four = refl; bytes = four_bytes _ (undo-mix-word _); has = key-hash h w; only = key-only h }
