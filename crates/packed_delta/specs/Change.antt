-- Public: what changed from one assignment to the next (`AssignmentDelta` of the Rust).
-- Assumes nothing.
use Rattle.std.specs.Prelude.{ℕ, Bool, false, not, ◌||◌, List, [], ◌∷◌, map}
use Rattle.keyed.specs.Keyed.{filter}
use Rattle.packed.specs.Assignment.{AssignedSegment, id_of, ConsumerAssignment}
use Rattle.packed.specs.Equal.{same_segment}
use Rattle.packed_delta.specs.Delta.{AssignmentDelta}

-- the row has a record identical to g
unfoldable pub has_same : List AssignedSegment → AssignedSegment → Bool
has_same [] g = false
has_same (h ∷ hs) g = same_segment g h || has_same hs g

-- the records of gs without an identical one in hs
unfoldable pub without : (gs hs : List AssignedSegment) → List AssignedSegment
without gs hs = filter (λ g. not (has_same hs g)) gs

-- "Lost: old ids absent or altered. Gained: new records without an identical old one."
unfoldable pub delta_between : (old new : ConsumerAssignment) → AssignmentDelta
delta_between old new =
    record {
      layout_epoch = new.layout_epoch;
      lost = map id_of (without old.segments new.segments);
      gained = without new.segments old.segments;
    }

-- the most bytes that the delta between two assignments of a slot each can need (`longest` of specs/Rows)
abbrev pub longest_delta : ℕ
longest_delta = 3210
