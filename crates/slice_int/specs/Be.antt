-- Public: numbers as bytes, most significant byte first (01, Sheet: "most significant bit first"), at any width.
--
-- `be` reads all bytes of a list, `bytes_of` writes a number at a width; proofs/BeLaws says that each undoes the other.
-- Assumes nothing.
use Rattle.std.specs.Prelude.{ℕ, zero, suc, ◌+◌, ◌*◌, ◌/◌, ◌%◌, List, [], ◌∷◌, ◌++◌, take, drop}

-- the number whose leading digits, to the base 256, are a, and whose others are the bytes of the list
unfoldable pub be_from : ℕ → List ℕ → ℕ
be_from a [] = a
be_from a (b ∷ l) = be_from (a * 256 + b) l

-- the number that the bytes of the list are
unfoldable pub be : List ℕ → ℕ
be l = be_from 0 l

-- the w bytes of s from the place at on, as a number
unfoldable pub be_at : (w : ℕ) (s : List ℕ) (at : ℕ) → ℕ
be_at w s at = be (take w (drop at s))

-- the low w bytes of v
unfoldable pub bytes_of : (w v : ℕ) → List ℕ
bytes_of zero v = []
bytes_of (suc w) v = bytes_of w (v / 256) ++ (v % 256 ∷ [])
