-- Internal: cited by the contracts of helpers alone; whoever reads the claims may skip it.
--
-- How src/ finds the least value, by the ends of ranges.
-- Assumes nothing.
use Rattle.std.specs.Prelude.{min, max, cond, List, [], ◌∷◌, leb, ℕ, Option, Some, None}
use Rattle.topic_types.specs.declared.KeyRange.{KeyRange}

-- the lesser of two values, if there are any
abbrev pub lesser_of : (x y : Option ℕ) → Option ℕ
lesser_of None y = y
lesser_of (Some a) None = Some a
lesser_of (Some a) (Some b) = Some (min a b)

-- the least value of two ranges
unfoldable pub least_common : (a b : KeyRange) → Option ℕ
least_common a b =
    cond (leb (max a.start b.start) (min a.end b.end)) (Some (max a.start b.start)) None

-- the least value of a range that lies in one of a row
unfoldable pub least_in : KeyRange → List KeyRange → Option ℕ
least_in r [] = None
least_in r (b ∷ bs) = lesser_of (least_common r b) (least_in r bs)
