-- Public: what `key_for_hash` gives, in 02's words and over `murmur3` alone. proofs/KeyLaws: it holds (`always-one`).
-- Assumes nothing.
use Rattle.std.specs.Prelude.{◌≡◌, ℕ, ◌^◌, ◌<◌, List, length}
use Rattle.slice.specs.Bytes.{Bytes}
use Rattle.key_murmur3.specs.Murmur3.{murmur3}
use Rattle.key_for_hash.specs.Inverse.{key_bytes, key_for_hash}

-- the key is four bytes that have the hash, and any four bytes that have it are the key
pub record OneKey (hash : ℕ) (key : List ℕ) : Type 0 where
  pub four : length key ≡ 4
  pub bytes : Bytes key
  pub has : murmur3 key ≡ hash
  pub only : (other : List ℕ) → length other ≡ 4 → Bytes other → murmur3 other ≡ hash → other ≡ key

-- "There is always one and never a second.": of every hash of 32 bits
abbrev pub AlwaysOne : Type 0
AlwaysOne = (hash : ℕ) → hash < 2 ^ 32 → OneKey hash (key_bytes (key_for_hash hash))
