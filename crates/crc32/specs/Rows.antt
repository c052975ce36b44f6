-- Public: published values of CRC-32, as one proved table, by computation.
--
-- "123456789" is the check value that catalogues of such sums give; those of no bytes and of "a" are gzip's.
-- Assumes nothing.
use Rattle.std.specs.Prelude.{ℕ, ◌≡◌, refl, List, [], ◌∷◌}
use Rattle.key_murmur3.specs.Words.{xor}
use Rattle.crc32.specs.Crc.{step, steps, update, updates, crc32}

-- "123456789"
abbrev pub digits : List ℕ
digits = 0x31 ∷ 0x32 ∷ 0x33 ∷ 0x34 ∷ 0x35 ∷ 0x36 ∷ 0x37 ∷ 0x38 ∷ 0x39 ∷ []

pub record Rows : Type 0 where
  pub empty : crc32 [] ≡ 0
  -- "a"
  pub one : crc32 (0x61 ∷ []) ≡ 0xE8B7BE43
  pub check : crc32 digits ≡ 0xCBF43926

pub rows : Rows
unfolding xor step steps update updates crc32
rows = record { empty = refl; one = refl; check = refl }
