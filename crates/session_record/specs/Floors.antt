-- Public: what the functions of src/ answer about the floor.
-- Assumes nothing.
use Rattle.std.specs.Prelude.{ℕ, Bool, false, ltb, Option, Some, None}

-- the epoch lies below the floor
abbrev pub below_floor : ℕ → Option ℕ → Bool
below_floor epoch None = false
below_floor epoch (Some floor) = ltb epoch floor

-- the floor, 0 where there is none
abbrev pub floor_value : Option ℕ → ℕ
floor_value None = 0
floor_value (Some floor) = floor
