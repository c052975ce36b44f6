-- Internal: cited by the contracts of helpers alone; whoever reads the claims may skip it.
--
-- What is known of the records that a walk over a packed assignment has before it.
-- Assumes nothing.
use Rattle.std.specs.Prelude.{ℕ, ◌+◌, ◌≤◌, ◌≡◌, true, List, length, drop}
use Rattle.packed.specs.Assignment.{decode_segments, size_segments, ok_from}

-- from the place p on, m records stand in order and within the bytes
pub record Rest (s : List ℕ) (p m : ℕ) : Type 0 where
  pub fits : p + size_segments (decode_segments m (drop p s)) ≤ length s
  pub ok : ok_from 0 (decode_segments m (drop p s)) ≡ true
