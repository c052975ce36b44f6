-- Public: the call apply (01: 20, 15, 21), over any bytes.
-- Assumes nothing.
use Rattle.std.specs.Prelude.{ℕ, ◌&&◌, List, leb}
use Rattle.refusal.specs.declared.Refusal.TheVariants.{MalformedInput, AssignmentTooLong}
use Rattle.refusal.specs.Steps.{◌>>◌, refuse_unless}
use Rattle.output.specs.Output.{Outcome, unwritten, written}
use Rattle.packed.specs.Assignment.{ConsumerAssignment, slot_size, encode_assignment, size_assignment, decode_assignment, is_assignment}
use Rattle.packed_delta.specs.Delta.{decode_delta, is_delta}
use Rattle.packed_delta.specs.Join.{apply}

-- the delta d applied to the packed assignment s
unfoldable pub apply_outcome : (s d out : List ℕ) → Outcome
apply_outcome s d out = do
  refuse_unless (unwritten out) (is_assignment s && is_delta d) MalformedInput  -- 20
  let a = apply (decode_delta d) (decode_assignment s)
  refuse_unless (unwritten out) (leb (size_assignment a) slot_size) AssignmentTooLong  -- 15
  written (encode_assignment a) out  -- 21

-- ---- Internal: the tail from 15 on, which laws cite

unfoldable pub applied : ConsumerAssignment → (out : List ℕ) → Outcome
applied a out = do
  refuse_unless (unwritten out) (leb (size_assignment a) slot_size) AssignmentTooLong
  written (encode_assignment a) out
