-- Public: what the sum tells: bytes that differ in one alone have another sum. Proved in proofs/DiffersLaws.
-- Assumes nothing.
use Rattle.std.specs.Prelude.{ℕ, ◌^◌, ◌<◌, ◌≡◌, List, length, get_or, set}
use Rattle.slice.specs.Bytes.{Bytes}
use Rattle.crc32.specs.Crc.{update, crc32}

-- a state with a byte taken in tells the state, and the byte
pub record Injective : Type 0 where
  pub state : (c d b : ℕ) → c < 2 ^ 32 → d < 2 ^ 32 → b < 256 → update c b ≡ update d b → c ≡ d
  pub byte : (c a b : ℕ) → c < 2 ^ 32 → a < 256 → b < 256 → update c a ≡ update c b → a ≡ b

-- with the byte v at the place i, bytes that have the same sum had v there
abbrev pub OneByteDiffers : Type 0
OneByteDiffers = (l : List ℕ) (i v : ℕ) → Bytes l → i < length l → v < 256 → crc32 (set l i v) ≡ crc32 l → v ≡ get_or l i 0
