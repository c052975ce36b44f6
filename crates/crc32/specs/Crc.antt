-- Public: CRC-32 of ISO 3309 and ITU-T V.42, as RFC 1952 (gzip) has it, over bytes.
--
-- RFC 1952, section 8: "if (c & 1) { c = 0xedb88320L ^ (c >> 1); } else { c = c >> 1; }", eight times for each byte; a check
-- starts from all ones, and all its bits are turned at the end.
-- Assumes nothing.
use Rattle.std.specs.Prelude.{ℕ, ◌/◌, ◌%◌, ◌<◌, ◌≡◌, cond, List, [], ◌∷◌, get_or, eqb}
use Rattle.key_murmur3.specs.Words.{xor}

-- the polynomial, lowest power in the highest bit
abbrev pub polynomial : ℕ
polynomial = 0xEDB88320

-- one bit
unfoldable pub step : ℕ → ℕ
step c = cond (eqb (c % 2) 1) (xor polynomial (c / 2)) (c / 2)

-- eight bits
unfoldable pub steps : ℕ → ℕ
steps c = step (step (step (step (step (step (step (step c)))))))

-- the state c with a byte taken in
unfoldable pub update : (c b : ℕ) → ℕ
update c b = steps (xor c b)

-- the state c with all bytes taken in
unfoldable pub updates : ℕ → List ℕ → ℕ
updates c [] = c
updates c (b ∷ l) = updates (update c b) l

unfoldable pub crc32 : List ℕ → ℕ
crc32 l = xor (updates 0xFFFFFFFF l) 0xFFFFFFFF

-- Internal, for the contracts of helpers: a table with the eight steps of each byte at its place
abbrev pub HasSteps : List ℕ → Type 0
HasSteps table = (b : ℕ) → b < 256 → get_or table b 0 ≡ steps b
