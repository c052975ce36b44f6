-- Public: a varint's value as a 32-bit integer (01, Fields): "uint32 and int32 keep the low 32 bits, int32 as two's
-- complement".
-- Assumes nothing.
use Rattle.std.specs.Prelude.{ℕ, ◌-◌, ◌%◌, ◌^◌, cond, ltb, ℤ, pos, negsuc}

abbrev pub uint32_of : ℕ → ℕ
uint32_of v = v % 2 ^ 32

-- n, or n - 2^32 from 2^31 on
unfoldable pub int32_of : ℕ → ℤ
int32_of v = cond (ltb (uint32_of v) (2 ^ 31)) (pos (uint32_of v)) (negsuc (2 ^ 32 - 1 - uint32_of v))
