-- Internal: cited by the contracts of helpers alone; whoever reads the claims may skip it.
--
-- What the steps of the merge over two packed assignments answer.
-- Assumes nothing.
use Rattle.std.specs.Prelude.{ℕ, ◌+◌, ◌≡◌, Bool, true, false, cond, List, [], ◌∷◌, ◌++◌, length, ltb}
use Rattle.slice_int.specs.Be.{bytes_of}
use Rattle.slice_int.specs.Put.{put}
use Rattle.packed.specs.Assignment.{AssignedSegment, encode_segment, decode_assignment}
use Rattle.packed.specs.Equal.{same_segment}
use Rattle.packed_delta.specs.Delta.{id_size}
use Rattle.packed_delta.specs.Change.{without}
use Rattle.packed_diff.specs.declared.Step.{Step}
use Rattle.packed_diff.specs.declared.Step.TheVariants.{Keep, Same, Skip}
use Rattle.packed_diff.specs.declared.Merged.{Merged}

-- how a record stands to others, whose ids rise: the first of them is below it, or is identical to it; or they have no identical one
unfoldable pub merge_step : AssignedSegment → List AssignedSegment → Step
merge_step g [] = Keep
merge_step g (h ∷ hs) = cond (ltb h.segment_id g.segment_id) Skip (cond (same_segment g h) Same Keep)

-- a record's bytes, or those of its id alone
unfoldable pub entry : Bool → AssignedSegment → List ℕ
entry true g = encode_segment g
entry false g = bytes_of 8 g.segment_id

unfoldable pub entries : Bool → List AssignedSegment → List ℕ
entries whole [] = []
entries whole (g ∷ gs) = entry whole g ++ entries whole gs

-- how many bytes of a record of that size are written
abbrev pub entry_size : Bool → ℕ → ℕ
entry_size true size = size
entry_size false size = id_size

-- the records of x that y has not, as assignments
abbrev pub only_in : List ℕ → List ℕ → List AssignedSegment
only_in x y = without (decode_assignment x).segments (decode_assignment y).segments

-- how many they are, and where the bytes end that were written from the place at on
pub record MergedIs (x y : List ℕ) (whole : Bool) (o : List ℕ) (at : ℕ) (r : Merged) (o' : List ℕ) : Type 0 where
  pub count : r.count ≡ length (only_in x y)
  pub next : r.next ≡ at + length (entries whole (only_in x y))
  pub wrote : o' ≡ put o at (entries whole (only_in x y))
