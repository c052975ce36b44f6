-- Public: the writer (01: 20, then where it has a segment 7 and 12, then 21; 02 e: 34 "in the writer after 20"), over
-- any bytes.
-- Assumes nothing.
use Rattle.std.specs.Prelude.{ℕ, cond, List, [], ◌∷◌, length, leb, Option, Some, None, ⊤, Result, Ok, Err}
use Rattle.refusal.specs.declared.Refusal.{Refusal}
use Rattle.refusal.specs.declared.Refusal.TheVariants.{MalformedInput, InvalidUtf8, InvalidParent}
use Rattle.refusal.specs.Steps.{◌>>◌, refuse_unless, refuse_due}
use Rattle.utf8.specs.Table.{is_utf8}
use Rattle.name_parents.specs.Parents.{is_parent, path_of}
use Rattle.output.specs.Output.{Outcome, unwritten, written}
use Rattle.packed.specs.Assignment.{AssignedSegment, decode_assignment, is_assignment}
use Rattle.writer_message.specs.Message.{segment_fields, assignment_message}
use Rattle.intake_content.specs.Content.{first_outside, outside_in, outside_of}

-- "where it has a segment 7 and 12"
abbrev pub with_parent : (out parent : List ℕ) → List AssignedSegment → Outcome → Outcome
with_parent out parent [] rest = rest
with_parent out parent (g ∷ gs) rest = do
  refuse_unless (unwritten out) (is_utf8 parent) InvalidUtf8  -- 7
  refuse_unless (unwritten out) (is_parent parent) InvalidParent  -- 12
  rest

-- the packed assignment s below the parent. 34: "The writer turns down a sheet with such a bucket too, so that what is written can be read"
unfoldable pub write_outcome : (s parent out : List ℕ) → Outcome
write_outcome s parent out = do
  refuse_unless (unwritten out) (is_assignment s) MalformedInput  -- 20
  let a = decode_assignment s
  refuse_due (unwritten out) (outside_in a.segments)  -- 34
  with_parent out parent a.segments  -- 7, 12
  written (assignment_message (path_of parent) a) out  -- 21

-- ---- Internal: what the functions below the call answer

abbrev pub outside_at : AssignedSegment → Option ℕ
outside_at g = outside_of (first_outside g.range 0 g.buckets)

abbrev pub held_of : Option Refusal → Result ⊤ Refusal
held_of None = Ok record {}
held_of (Some x) = Err x

-- how many bytes the segments' fields have, if those are within the limit
unfoldable pub room_of : ℕ → List ℕ → List AssignedSegment → Option ℕ
room_of limit path gs = cond (leb (length (segment_fields path gs)) limit) (Some (length (segment_fields path gs))) None
