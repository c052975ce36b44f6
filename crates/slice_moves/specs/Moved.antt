-- Internal: cited by the contracts of helpers alone; whoever reads the claims may skip it.
--
-- Bytes of o of which some are moved already, in b; and an element put among others.
-- Assumes nothing.
use Rattle.std.specs.Prelude.{ℕ, ◌+◌, ◌-◌, ◌≤◌, ◌≡◌, List, ◌∷◌, ◌++◌, length, take, drop}
use Rattle.slice_int.specs.Put.{put}

-- the first i of z bytes from the place `from` on stand at the place `to`
pub record Lowered (o : List ℕ) (from to z : ℕ) (b : List ℕ) (i : ℕ) : Type 0 where
  pub within : i ≤ z
  pub long : length b ≡ length o
  pub bytes : b ≡ put o to (take i (drop from o))

-- the bytes from the place i to the place `to` stand z places further up
pub record Raised (o : List ℕ) (from to z : ℕ) (b : List ℕ) (i : ℕ) : Type 0 where
  pub above : from ≤ i
  pub below : i ≤ to
  pub long : length b ≡ length o
  pub bytes : b ≡ put o (i + z) (take (to - i) (drop i o))

-- v at index i, the later ones one place up
abbrev pub placed : {A : Type 0} → ℕ → A → List A → List A
placed i v l = take i l ++ (v ∷ drop i l)

-- a row of which the first n take v at index i: the one behind them is gone
abbrev pub placed_in : (row : List ℕ) (i n v : ℕ) → List ℕ
placed_in row i n v = placed i v (take n row) ++ drop (n + 1) row
