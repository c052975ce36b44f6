-- Public: the call join (01: 20, 21), over any bytes. "a joined count above 65,535 is 21": the definition of join has
-- no size limit, its packed form has.
-- Assumes nothing.
use Rattle.std.specs.Prelude.{ℕ, Bool, ◌&&◌, List, length, leb}
use Rattle.refusal.specs.declared.Refusal.TheVariants.{MalformedInput, ResultTooLong}
use Rattle.refusal.specs.Steps.{◌>>◌, refuse_unless}
use Rattle.output.specs.Output.{Outcome, unwritten, written}
use Rattle.packed_delta.specs.Delta.{AssignmentDelta, encode_delta, decode_delta, is_delta}
use Rattle.packed_delta.specs.Join.{join}

-- the most that a 16-bit count says
abbrev pub max_count : ℕ
max_count = 65535

-- both counts have a packed form
abbrev pub countable : AssignmentDelta → Bool
countable d = leb (length d.lost) max_count && leb (length d.gained) max_count

-- the delta d, then the delta e
unfoldable pub join_outcome : (d e out : List ℕ) → Outcome
join_outcome d e out = do
  refuse_unless (unwritten out) (is_delta d && is_delta e) MalformedInput  -- 20
  let j = join (decode_delta d) (decode_delta e)
  refuse_unless (unwritten out) (countable j) ResultTooLong  -- 21
  written (encode_delta j) out  -- 21

-- ---- Internal: the tail from 21 on, which a helper's contract cites

unfoldable pub joined_delta : AssignmentDelta → (out : List ℕ) → Outcome
joined_delta d out = do
  refuse_unless (unwritten out) (countable d) ResultTooLong
  written (encode_delta d) out
