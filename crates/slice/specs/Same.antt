-- Public: equality of bytes, as a test.
-- Assumes nothing.
use Rattle.std.specs.Prelude.{ℕ, Bool, true, false, ◌&&◌, List, [], ◌∷◌, length, take, eqb}

-- the two lists are equal; proofs/SameLaws says that the test means `≡`
unfoldable pub same_bytes : (xs ys : List ℕ) → Bool
same_bytes [] [] = true
same_bytes [] (y ∷ ys) = false
same_bytes (x ∷ xs) [] = false
same_bytes (x ∷ xs) (y ∷ ys) = eqb x y && same_bytes xs ys

-- the list s starts with p
unfoldable pub starts_with : (p s : List ℕ) → Bool
starts_with p s = same_bytes (take (length p) s) p
