-- Public: MurmurHash3_x86_32 with seed 0 (Austin Appleby, MurmurHash3.cpp), over a key's bytes. Above each definition
-- stand its lines of the C.
--
-- In order: a block as a number; a block mixed into the hash; the body and the tail; the end; the whole.
-- Assumes nothing.
use Rattle.std.specs.Prelude.{ℕ, ◌+◌, ◌*◌, ◌%◌, ◌^◌, List, [], ◌∷◌, length}
use Rattle.key_murmur3.specs.Words.{wrapping_add, wrapping_mul, xor, rotate_left, xor_shift}

-- "four-byte blocks low byte first" (02, request a)
unfoldable pub low_first : List ℕ → ℕ
low_first [] = 0
low_first (b ∷ l) = b + 256 * low_first l

-- k1 *= c1; k1 = ROTL32 (k1, 15); k1 *= c2
unfoldable pub scramble : ℕ → ℕ
scramble k = wrapping_mul (rotate_left (wrapping_mul k 0xcc9e2d51) 15) 0x1b873593

-- h1 ^= k1; h1 = ROTL32 (h1, 13); h1 = h1 * 5 + 0xe6546b64
unfoldable pub mix : (h k : ℕ) → ℕ
mix h k = wrapping_add (wrapping_mul (rotate_left (xor h (scramble k)) 13) 5) 0xe6546b64

-- the hash h with every block mixed in; the one to three bytes behind the last are scrambled, and h1 ^= k1
unfoldable pub blocks : ℕ → List ℕ → ℕ
blocks h [] = h
blocks h (a ∷ []) = xor h (scramble (low_first (a ∷ [])))
blocks h (a ∷ b ∷ []) = xor h (scramble (low_first (a ∷ b ∷ [])))
blocks h (a ∷ b ∷ c ∷ []) = xor h (scramble (low_first (a ∷ b ∷ c ∷ [])))
blocks h (a ∷ b ∷ c ∷ d ∷ l) = blocks (mix h (low_first (a ∷ b ∷ c ∷ d ∷ []))) l

-- h ^= h >> 16; h *= 0x85ebca6b; h ^= h >> 13; h *= 0xc2b2ae35; h ^= h >> 16
unfoldable pub fmix : ℕ → ℕ
fmix h = xor_shift (wrapping_mul (xor_shift (wrapping_mul (xor_shift h 16) 0x85ebca6b) 13) 0xc2b2ae35) 16

-- h1 = seed, which is 0; blocks and tail; h1 ^= len; h1 = fmix32 (h1)
unfoldable pub murmur3 : List ℕ → ℕ
murmur3 key = fmix (xor (blocks 0 key) (length key % 2 ^ 32))
