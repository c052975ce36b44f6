-- Public: when ranges share a value (01, Ranges: bucket ranges "may not share a value").
--
-- `overlap` decides by the ends. For ranges that are not reversed it means that some value lies in both: specs/Meaning. A row that rises has no two
-- ranges that share a value: `rising-apart` of proofs/OverlapLaws.
-- Assumes nothing.
use Rattle.std.specs.Prelude.{ℕ, suc, Bool, true, false, ◌&&◌, ◌||◌, List, [], ◌∷◌, leb}
use Rattle.topic_types.specs.declared.KeyRange.{KeyRange}

-- two ranges, each from its start to its end
abbrev pub overlap : (a b : KeyRange) → Bool
overlap a b = leb a.start b.end && leb b.start a.end

-- some range of the row shares a value with r
unfoldable pub overlaps_any : KeyRange → List KeyRange → Bool
overlaps_any r [] = false
overlaps_any r (x ∷ xs) = overlap x r || overlaps_any r xs

-- two ranges of the row share a value
unfoldable pub any_overlap : List KeyRange → Bool
any_overlap [] = false
any_overlap (x ∷ xs) = overlaps_any x xs || any_overlap xs

-- r is not reversed and starts at low or above
abbrev pub starts_from : ℕ → KeyRange → Bool
starts_from low r = leb low r.start && leb r.start r.end

-- the row rises: no range is reversed, the first starts at low or above, each other above the end of the one before it
unfoldable pub rising_from : ℕ → List KeyRange → Bool
rising_from low [] = true
rising_from low (r ∷ rs) = starts_from low r && rising_from (suc r.end) rs
