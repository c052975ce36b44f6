-- Laws of `murmur3` over a key that is read where it lies.
--
-- In order: bytes at a place, low byte first (`low-at`, `low-take`, `low_end`, `low-four`); one turn of the hash: what is
-- left, from a place on, decides the whole (`blocks-turn`, `blocks-tail`, `blocks_end`).
-- Assumes nothing.
use Rattle.std.proofs.Common.{◌≡◌, ℕ, suc, ◌+◌, ◌*◌, ◌<◌, ◌≤◌, List, [], ◌∷◌, length, get_or, take, drop, refl, ap, ◌∙◌, add-one, arith, length-drop, drop_of_length-le, drop-cons, drop-drop}
use Rattle.key_murmur3.specs.Words.{xor}
use Rattle.key_murmur3.specs.Murmur3.{low_first, scramble, mix, blocks}

-- ---- bytes at a place

module _ (s : List ℕ) (at next : ℕ) (e : next ≡ at + 1) (h : at < length s) where
  drop_at : drop at s ≡ get_or s at 0 ∷ drop next s
  drop_at = rw (e, add-one, drop-cons s at 0)

  pub low-at : low_first (drop at s) ≡ get_or s at 0 + 256 * low_first (drop next s)
  unfolding low_first
  low-at = ap low_first drop_at

  low-take : (n : ℕ) → low_first (take (suc n) (drop at s)) ≡ get_or s at 0 + 256 * low_first (take n (drop next s))
  unfolding low_first
  low-take n = ap (λ (l : List ℕ). low_first (take (suc n) l)) drop_at

pub low_end : (s : List ℕ) (at : ℕ) → length s ≤ at → low_first (drop at s) ≡ 0
unfolding low_first
low_end s at h = ap low_first (drop_of_length-le s h)

pub low-four : (s : List ℕ) (at : ℕ) → at + 4 ≤ length s
    → low_first (take 4 (drop at s)) ≡ get_or s at 0 + 256 * get_or s (at + 1) 0 + 65536 * get_or s (at + 2) 0 + 16777216 * get_or s (at + 3) 0
unfolding low_first
low-four s at h =
    omega (
      arith,
      low-take s at (at + 1) (omega arith) (omega arith) 3,
      low-take s (at + 1) (at + 2) (omega arith) (omega arith) 2,
      low-take s (at + 2) (at + 3) (omega arith) (omega arith) 1,
      low-take s (at + 3) (at + 4) (omega arith) (omega arith) 0,
    )

-- ---- one turn of the hash

four : (h : ℕ) (l : List ℕ) → 4 ≤ length l → blocks h l ≡ blocks (mix h (low_first (take 4 l))) (drop 4 l)
unfolding blocks
four h [] k = absurd (omega arith)
four h (a ∷ []) k = absurd (omega arith)
four h (a ∷ b ∷ []) k = absurd (omega arith)
four h (a ∷ b ∷ c ∷ []) k = absurd (omega arith)
four h (a ∷ b ∷ c ∷ d ∷ l) k = refl

fewer : (h : ℕ) (l : List ℕ) → 0 < length l → length l < 4 → blocks h l ≡ xor h (scramble (low_first l))
unfolding blocks
fewer h [] j k = absurd (omega arith)
fewer h (a ∷ []) j k = refl
fewer h (a ∷ b ∷ []) j k = refl
fewer h (a ∷ b ∷ c ∷ []) j k = refl
fewer h (a ∷ b ∷ c ∷ d ∷ l) j k = absurd (omega arith)

module _ (s : List ℕ) (h at : ℕ) where
  -- a block more
  pub blocks-turn : at + 4 ≤ length s → blocks h (drop at s) ≡ blocks (mix h (low_first (take 4 (drop at s)))) (drop (at + 4) s)
  blocks-turn k =
      four h (drop at s) (rw (length-drop at s) (omega arith))
      ∙ ap (λ (l : List ℕ). blocks (mix h (low_first (take 4 (drop at s)))) l) (drop-drop 4 at s)

  -- the tail
  pub blocks-tail : at < length s → length s < at + 4 → blocks h (drop at s) ≡ xor h (scramble (low_first (drop at s)))
  blocks-tail j k = fewer h (drop at s) (rw (length-drop at s) (omega arith)) (rw (length-drop at s) (omega arith))

  -- nothing is left
  pub blocks_end : length s ≤ at → blocks h (drop at s) ≡ h
  unfolding blocks
  blocks_end k = ap (blocks h) (drop_of_length-le s k)
