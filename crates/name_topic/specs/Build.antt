-- Public: the name builder (01, Name builder: 7, 9, 12, 21).
--
-- An name_outcome is what a call with an output gives: its answer, and the output's bytes behind the call.
-- Assumes nothing.
use Rattle.std.specs.Prelude.{ℕ, cond, List, length, leb, Result, Ok, Err}
use Rattle.topic_types.specs.declared.SegmentId.{SegmentId}
use Rattle.topic_types.specs.KeyRanges.{new_key_range}
use Rattle.refusal.specs.declared.Refusal.{Refusal}
use Rattle.refusal.specs.declared.Refusal.TheVariants.{InvalidUtf8, InvalidParent, ResultTooLong}
use Rattle.refusal.specs.Steps.{◌>>◌, ◌>>=◌, refuse_unless, take_range}
use Rattle.slice_int.specs.Put.{put}
use Rattle.utf8.specs.Table.{is_utf8}
use Rattle.name_parents.specs.Parents.{is_parent, path_of}
use Rattle.name_topic.specs.Names.{segment_topic}
use Rattle.topic_types.specs.declared.KeyRange.{KeyRange}
use Rattle.topic_types.specs.declared.KeyRangeError.{KeyRangeError}

pub record NameOutcome : Type 0 where
  pub answer : Result ℕ Refusal
  pub out : List ℕ

abbrev pub name_outcome : Result ℕ Refusal → List ℕ → NameOutcome
name_outcome answer out = record { answer = answer; out = out }

-- a refusal leaves the output as it was
abbrev pub refuse : Refusal → List ℕ → NameOutcome
refuse x out = name_outcome (Err x) out

abbrev pub unwritten : (out : List ℕ) → Refusal → NameOutcome
unwritten out x = refuse x out

-- the text at the front of the output, and its length; 21 where it does not fit
unfoldable pub written : (text out : List ℕ) → NameOutcome
written text out = cond (leb (length text) (length out)) (name_outcome (Ok (length text)) (put out 0 text)) (refuse ResultTooLong out)

-- `canonical_segment_topic` of a parent, a range given by its ends, and an id
unfoldable pub canonical_segment_topic : (parent : List ℕ) (start end : ℕ) (id : SegmentId) (out : List ℕ) → NameOutcome
canonical_segment_topic parent start end id out = do
  refuse_unless (unwritten out) (is_utf8 parent) InvalidUtf8  -- 7
  range ← take_range (unwritten out) (new_key_range start end)  -- 9
  refuse_unless (unwritten out) (is_parent parent) InvalidParent  -- 12
  written (segment_topic (path_of parent) range id) out  -- 21

-- ---- Internal: the tail from 9 on, which laws cite

unfoldable pub build_name : (parent : List ℕ) → Result KeyRange KeyRangeError → SegmentId → (out : List ℕ) → NameOutcome
build_name parent x id out = do
  range ← take_range (unwritten out) x
  refuse_unless (unwritten out) (is_parent parent) InvalidParent
  written (segment_topic (path_of parent) range id) out
