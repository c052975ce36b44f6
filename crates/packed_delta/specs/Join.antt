-- Public: deltas applied and joined (01, Apply and join). These definitions have no size limit.
-- Assumes nothing.
use Rattle.std.specs.Prelude.{ℕ, ◌≡◌, Bool, false, not, ◌||◌, ◌&&◌, List, [], ◌∷◌, ◌++◌}
use Rattle.keyed.specs.Keyed.{self, filter, holds, insert_all, Rising}
use Rattle.packed.specs.Assignment.{AssignedSegment, id_of, ConsumerAssignment}
use Rattle.packed_delta.specs.Delta.{AssignmentDelta}

-- an assignment whose ids rise
abbrev pub Proper : ConsumerAssignment → Type 0
Proper a = Rising id_of a.segments

-- a delta whose lost ids rise, and whose gained records do
abbrev pub ProperDelta : AssignmentDelta → Type 0
ProperDelta d = Rising self d.lost × Rising id_of d.gained

-- the records without those whose ids are struck
unfoldable pub strike : List ℕ → List AssignedSegment → List AssignedSegment
strike ids gs = filter (λ g. not (holds self g.segment_id ids)) gs

-- "Apply strikes lost ids, then writes gained records over any with that id, and takes the delta's epoch."
unfoldable pub apply : AssignmentDelta → ConsumerAssignment → ConsumerAssignment
apply d a = record { layout_epoch = d.layout_epoch; segments = insert_all id_of d.gained (strike d.lost a.segments) }

-- the delta loses or gains the id
abbrev pub names : AssignmentDelta → ℕ → Bool
names e id = holds self id e.lost || holds id_of id e.gained

-- "no id that one delta names, as lost or as gained, is named by the other in either way" (02 k)
abbrev pub Apart : (d e : AssignmentDelta) → Type 0
Apart d e = (id : ℕ) → (names d id && names e id) ≡ false

-- "Join of d then e: lost = all ids lost in either; gained = d's records whose id e neither loses nor gains, with e's; epoch e's."
unfoldable pub join : (d e : AssignmentDelta) → AssignmentDelta
join d e =
    record {
      layout_epoch = e.layout_epoch;
      lost = insert_all self e.lost d.lost;
      gained = insert_all id_of e.gained (filter (λ g. not (names e g.segment_id)) d.gained);
    }

-- ---- a row of deltas joined, in some bracketing

pub data Bracketing : Type 0 where
  one : AssignmentDelta → Bracketing
  two : Bracketing → Bracketing → Bracketing

-- the row that is bracketed
abbrev pub row : Bracketing → List AssignmentDelta
row (one d) = d ∷ []
row (two l r) = row l ++ row r

-- the delta that the bracketing gives
abbrev pub joined : Bracketing → AssignmentDelta
joined (one d) = d
joined (two l r) = join (joined l) (joined r)

-- a row of deltas applied one after the other
abbrev pub apply_all : List AssignmentDelta → ConsumerAssignment → ConsumerAssignment
apply_all [] a = a
apply_all (d ∷ ds) a = apply_all ds (apply d a)
