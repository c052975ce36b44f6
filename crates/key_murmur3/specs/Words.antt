-- Public: words of 32 bits, as MurmurHash3 works on them: numbers below 2 ^ 32.
--
-- "products and sums are taken modulo 2^32" (02, request a). `xor` is the program logic's own, digit by digit.
-- Assumes nothing.
use Rattle.std.specs.Prelude.{ℕ, ◌+◌, ◌-◌, ◌*◌, ◌/◌, ◌%◌, ◌^◌, bit_xor}

unfoldable pub wrapping_add : (a b : ℕ) → ℕ
wrapping_add a b = (a + b) % 2 ^ 32

unfoldable pub wrapping_mul : (a b : ℕ) → ℕ
wrapping_mul a b = (a * b) % 2 ^ 32

unfoldable pub xor : ℕ → ℕ → ℕ
xor a b = bit_xor a b

-- x rotated left by r bits: its low 32 - r bits go up by r, and its high r bits come below them
unfoldable pub rotate_left : (x r : ℕ) → ℕ
rotate_left x r = x % 2 ^ (32 - r) * 2 ^ r + x / 2 ^ (32 - r)

-- x ^ (x >> k)
unfoldable pub xor_shift : (x k : ℕ) → ℕ
xor_shift x k = xor x (x / 2 ^ k)
