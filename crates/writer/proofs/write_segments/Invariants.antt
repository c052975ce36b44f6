-- `write_segments` meets its contract. The invariant: the fields of the records that are left are left to write (`Writing` of
-- proofs/WritingLaws). The measure is how many those are. Assumes nothing.
use mathlib.Core.List.{[], ◌∷◌}
use lib.ListN.{drop}
use Rattle.packed.specs.Assignment.{decode_segments}
use Rattle.packed.proofs.AssignmentLaws.{Rest}
use Rattle.writer_message.specs.Message.{segment_fields}
use Rattle.writer.proofs.WritingLaws.{Writing}
use Rattle.writer.proofs.write_segments.Given as goal

abbrev pub invariant-loop-left : goal.invariant-loop-left
invariant-loop-left l = Rest l.s l.p l.left
    × Writing l.initial.out l.to (segment_fields l.path (decode_segments l.m (drop l.at l.s))) l.out l.next (segment_fields l.path (decode_segments l.left (drop l.p l.s)) ∷ [])

abbrev pub decreases-loop-left : goal.decreases-loop-left
decreases-loop-left l = l.left
