-- Public: a test key for a segment of a packed assignment (02, request i): the key of the least hash that the segment
-- takes. What an answer means, in 02's words, is said in specs/Answered.
-- Assumes nothing.
use Rattle.std.specs.Prelude.{ℕ, List, Option, Some, None, Result, Ok, Err}
use Rattle.refusal.specs.declared.Refusal.TheVariants.{MalformedInput}
use Rattle.refusal.specs.Steps.{◌>>◌, refuse_unless}
use Rattle.keyed.specs.Keyed.{find}
use Rattle.packed.specs.Assignment.{AssignedSegment, id_of, decode_assignment, is_assignment}
use Rattle.key_for_hash.specs.Inverse.{key_for_hash}
use Rattle.key_in_segment.specs.Least.{least_taken}
use Rattle.refusal.specs.declared.Refusal.{Refusal}
use Rattle.key_for_hash.specs.declared.TestKey.{TestKey}

-- "with upper hash bits 0 and the smallest such hash": the value is the whole hash
unfoldable pub key_at : Option ℕ → Result (Option TestKey) Refusal
key_at (Some v) = Ok (Some (key_for_hash v))
key_at None = Ok None

-- "None is answered if the id is not in the sheet"
unfoldable pub key_in : Option AssignedSegment → Result (Option TestKey) Refusal
key_in (Some g) = key_at (least_taken g)
key_in None = Ok None

-- "A malformed sheet is 20."
unfoldable pub key_in_segment : (assignment : List ℕ) (id : ℕ) → Result (Option TestKey) Refusal
key_in_segment assignment id = do
  refuse_unless Err (is_assignment assignment) MalformedInput  -- 20
  key_in (find id_of id (decode_assignment assignment).segments)
