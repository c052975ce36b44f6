-- Internal: cited by the contracts of helpers alone; whoever reads the claims may skip it.
--
-- A buffer of a slot's length with a packed assignment at its front.
-- Assumes nothing.
use Rattle.std.specs.Prelude.{ℕ, ◌≡◌, true, List, length}
use Rattle.packed.specs.Assignment.{slot_size, size_assignment, decode_assignment, starts_assignment}

-- the packed assignment has n bytes
pub record Scratch (b : List ℕ) (n : ℕ) : Type 0 where
  pub long : length b ≡ slot_size
  pub starts : starts_assignment b ≡ true
  pub size : n ≡ size_assignment (decode_assignment b)
