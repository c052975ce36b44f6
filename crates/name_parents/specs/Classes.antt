-- Public: the classes of a name's bytes (01, Names: "digit, a to f, `/`, `-`, `?`, `#`, other").
-- Assumes nothing.
use Rattle.std.specs.Prelude.{ℕ, ◌<◌, ◌≡◌, Bool, cond, ◌&&◌, ◌||◌, List, get_or, leb, eqb}

-- b lies between low and high, both included
abbrev pub between : ℕ → ℕ → ℕ → Bool
between low high b = leb low b && leb b high

-- 0 other, 1 digit, 2 a to f, 3 '/', 4 '-', 5 '?', 6 '#'
unfoldable pub class_of : ℕ → ℕ
class_of b =
    cond (between 0x30 0x39 b) 1
    (cond (between 0x61 0x66 b) 2
    (cond (eqb b 0x2F) 3
    (cond (eqb b 0x2D) 4
    (cond (eqb b 0x3F) 5
    (cond (eqb b 0x23) 6 0)))))

abbrev pub is_digit_byte : ℕ → Bool
is_digit_byte b = eqb (class_of b) 1

-- a lower-case hexadecimal digit
abbrev pub is_hex_digit : ℕ → Bool
is_hex_digit b = eqb (class_of b) 1 || eqb (class_of b) 2

abbrev pub is_slash : ℕ → Bool
is_slash b = eqb (class_of b) 3

abbrev pub is_dash : ℕ → Bool
is_dash b = eqb (class_of b) 4

-- '?' or '#'
abbrev pub is_mark : ℕ → Bool
is_mark b = eqb (class_of b) 5 || eqb (class_of b) 6

-- ---- what a helper of src/ is lent

-- the table has the class of each byte at its place
abbrev pub Sorts : List ℕ → Type 0
Sorts table = (b : ℕ) → b < 256 → get_or table b 0 ≡ class_of b
