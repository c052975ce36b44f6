-- Public: where the parts of a field stand in a message.
--
-- The definition goes down the bytes as `fields_of` of the crate wire does: the count is the bytes that still belong to the field before. That these
-- are the places of the parts that `parts_of` gives is `PlacesAreParts`, proved in proofs/PlaceLaws.
-- Assumes nothing.
use Rattle.std.specs.Prelude.{ℕ, zero, suc, ◌+◌, ◌-◌, ◌≡◌, cond, List, [], ◌∷◌, map, take, drop, eqb, Option, Some, None}
use Rattle.wire.specs.Fields.{fields_of}
use Rattle.wire_values.specs.declared.Front.{Front}
use Rattle.wire_values.specs.declared.Front.TheVariants as front
use Rattle.wire_values.specs.Values.{parts_of}
use Rattle.wire_values.specs.Places.{front_of}

-- a part: where it starts, and its length
pub record Place : Type 0 where
  pub start : ℕ
  pub length : ℕ

-- the length of the field at the front; 0 where it is broken
abbrev pub size_of : Option Front → ℕ
size_of (Some (front.Number f v size)) = size
size_of (Some (front.Part f start len)) = start + len
size_of (Some (front.Fixed size)) = size
size_of None = 0

-- the field at the place `at`, before the places behind it; a broken field is the last
abbrev pub places_by : ℕ → ℕ → Option Front → List Place → List Place
places_by n at (Some (front.Number f v size)) ps = ps
places_by n at (Some (front.Part f start len)) ps = cond (eqb f n) (record { start = at + start; length = len } ∷ ps) ps
places_by n at (Some (front.Fixed size)) ps = ps
places_by n at None ps = []

-- the list stands at the place `at`, and its first k bytes belong to a field before
abbrev pub places_after : (n at k : ℕ) → List ℕ → List Place
places_after n at k [] = []
places_after n at (suc k) (b ∷ l) = places_after n (suc at) k l
places_after n at zero (b ∷ l) = places_by n at (front_of (b ∷ l)) (places_after n (suc at) (size_of (front_of (b ∷ l)) - 1) l)

-- where the parts of field n stand, in byte order
unfoldable pub places_of : ℕ → List ℕ → List Place
places_of n l = places_after n 0 0 l

-- the bytes at a place
abbrev pub part_at : List ℕ → Place → List ℕ
part_at l p = take p.length (drop p.start l)

-- the places are those of the parts
abbrev pub PlacesAreParts : Type 0
PlacesAreParts = (n : ℕ) (l : List ℕ) → map (part_at l) (places_of n l) ≡ parts_of n (fields_of l)
