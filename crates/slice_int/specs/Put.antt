-- Public: bytes written at a place. Everything that is written to a lent slice is said by `put`.
-- Assumes nothing.
use Rattle.std.specs.Prelude.{ℕ, ◌+◌, List, ◌++◌, length, take, drop}

-- l with the elements from the place at on replaced by vs, and all others as before
unfoldable pub put : (l : List ℕ) (at : ℕ) (vs : List ℕ) → List ℕ
put l at vs = take at l ++ (vs ++ drop (at + length vs) l)
