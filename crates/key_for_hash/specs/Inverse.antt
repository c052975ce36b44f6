-- Public: the four-byte key that has a given hash (02, request i): each step of MurmurHash3 undone, the last first.
--
-- Whoever reads the claims need not follow the steps: that `key_for_hash` gives four bytes that have the hash, and that
-- no others have it, is said in specs/OneKey of `murmur3` alone.
-- Assumes nothing.
use Rattle.std.specs.Prelude.{ℕ, ◌-◌, ◌/◌, ◌%◌, ◌^◌, List, [], ◌∷◌}
use Rattle.key_murmur3.specs.Words.{wrapping_add, wrapping_mul, xor, rotate_left, xor_shift}
use Rattle.key_for_hash.specs.declared.TestKey.{TestKey}

-- the bytes of a key, in their order
abbrev pub key_bytes : TestKey → List ℕ
key_bytes k = k.first ∷ k.second ∷ k.third ∷ k.fourth ∷ []

-- the word x with x ^ (x >> k) ≡ y, where 3 * k is 32 or more
unfoldable pub undo_shift : (y k : ℕ) → ℕ
undo_shift y k = xor y (xor_shift y k / 2 ^ k)

-- the word that `fmix` takes to h; each multiplier is the inverse, modulo 2 ^ 32, of one of `fmix`
unfoldable pub undo_fmix : ℕ → ℕ
undo_fmix h = undo_shift (wrapping_mul (undo_shift (wrapping_mul (undo_shift h 16) 0x7ed1b41d) 13) 0xa5cb9243) 16

-- the word that `scramble` takes to k
unfoldable pub undo_scramble : ℕ → ℕ
undo_scramble k = wrapping_mul (rotate_left (wrapping_mul k 0x56ed309b) 17) 0xdee13bb1

-- the block that `mix` takes, with the hash 0, to h
unfoldable pub undo_mix : ℕ → ℕ
undo_mix h = undo_scramble (rotate_left (wrapping_mul (wrapping_add h (2 ^ 32 - 0xe6546b64)) 0xcccccccd) 19)

-- the block of the four-byte key that has the hash h
unfoldable pub block_for_hash : ℕ → ℕ
block_for_hash h = undo_mix (xor (undo_fmix h) 4)

-- the key of a block: "low byte first"
unfoldable pub key_of_block : ℕ → TestKey
key_of_block k = record { first = k % 256; second = k / 256 % 256; third = k / 65536 % 256; fourth = k / 16777216 }

-- "Given all 32 bits of a MurmurHash3 result, give the four-byte key that has it."
unfoldable pub key_for_hash : ℕ → TestKey
key_for_hash h = key_of_block (block_for_hash h)
