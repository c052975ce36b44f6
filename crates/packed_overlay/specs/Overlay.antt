-- Internal: cited by the contracts of helpers alone; whoever reads the claims may skip it.
--
-- What the walks over a row of records and a delta's ids and records answer.
--
-- `overlay` is what apply does to an assignment's records and, by `join-overlay` of delta's laws, what join does to the first delta's.
-- Assumes nothing.
use Rattle.std.specs.Prelude.{ℕ, ◌+◌, ◌*◌, ◌≤◌, ◌≡◌, true, cond, List, [], ◌∷◌, length, drop, ltb, eqb, leb, Option, Some, None}
use Rattle.keyed.specs.Keyed.{self, insert_all}
use Rattle.packed.specs.Assignment.{AssignedSegment, id_of, size_segments, decode_segments}
use Rattle.packed.specs.Rest.{Rest}
use Rattle.packed_delta.specs.Delta.{id_size, decode_ids, ids_from}
use Rattle.packed_delta.specs.Join.{strike}
use Rattle.packed_overlay.specs.declared.Row.{Row}
use Rattle.packed_overlay.specs.declared.Step.{Step}
use Rattle.packed_overlay.specs.declared.Step.TheVariants.{End, Strike, Pass, Keep, Gain}

-- ---- records

-- lost ids are struck, then gained records are written over any with their id
unfoldable pub overlay : (lost : List ℕ) (gained gs : List AssignedSegment) → List AssignedSegment
overlay lost gained gs = insert_all id_of gained (strike lost gs)

-- the records, or the ids, of a row in the bytes s
abbrev pub records_in : List ℕ → Row → List AssignedSegment
records_in s row = decode_segments row.left (drop row.at s)

abbrev pub ids_in : List ℕ → Row → List ℕ
ids_in s row = decode_ids row.left (drop row.at s)

-- the row lies in the bytes s, and its ids rise
abbrev pub RecordRow : List ℕ → Row → Type 0
RecordRow s row = Rest s row.at row.left

pub record IdRow (s : List ℕ) (row : Row) : Type 0 where
  pub fits : row.at + id_size * row.left ≤ length s
  pub rise : ids_from 0 (ids_in s row) ≡ true

-- what to do with a record, by the first lost id
abbrev pub step_by_lost : ℕ → List ℕ → Step
step_by_lost id [] = Keep
step_by_lost id (i ∷ lost) = cond (ltb i id) Pass (cond (eqb i id) Strike Keep)

-- and by the first gained record
abbrev pub step_by_gained : ℕ → List AssignedSegment → List ℕ → Step
step_by_gained id [] lost = step_by_lost id lost
step_by_gained id (g ∷ gained) lost = cond (ltb g.segment_id id) Gain (cond (eqb g.segment_id id) Strike (step_by_lost id lost))

abbrev pub step_at_end : List AssignedSegment → Step
step_at_end [] = End
step_at_end (g ∷ gained) = Gain

-- the next step, by the first of each row
unfoldable pub overlay_step : (lost : List ℕ) (gained gs : List AssignedSegment) → Step
overlay_step lost gained [] = step_at_end gained
overlay_step lost gained (g ∷ gs) = step_by_gained g.segment_id gained lost

-- how many records these are and how many bytes, if those are within the limit
unfoldable pub fit_of : ℕ → List AssignedSegment → Option (ℕ × ℕ)
fit_of limit gs = cond (leb (size_segments gs) limit) (Some (length gs, size_segments gs)) None

-- ---- ids

-- the ids of both rows
unfoldable pub union : (ids more : List ℕ) → List ℕ
union ids more = insert_all self more ids
