-- Internal: cited by the contracts of helpers alone; whoever reads the claims may skip it.
--
-- The rows of a delta where they lie.
-- Assumes nothing.
use Rattle.std.specs.Prelude.{ℕ, ◌+◌, ◌*◌, List, length}
use Rattle.packed_delta.specs.Delta.{delta_head, id_size, decode_delta}
use Rattle.packed_join.specs.declared.Rows.{Rows}

-- behind the head: so many lost ids, then so many gained records
abbrev pub rows_of : (losses gains : ℕ) → Rows
rows_of losses gains = record { lost = record { at = delta_head; left = losses }; gained = record { at = delta_head + id_size * losses; left = gains } }

abbrev pub rows_of_delta : List ℕ → Rows
rows_of_delta d = rows_of (length (decode_delta d).lost) (length (decode_delta d).gained)
