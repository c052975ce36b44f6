-- `is_ordered` meets its contract: each arm is what its callee tells. Assumes nothing.
use mathlib.Core.Bool.{false≢true}
use Rattle.wire_ordered.proofs.is_ordered.Goals as goal

pub returns-in-ScalableConsumerAssignment : goal.returns-in-ScalableConsumerAssignment
returns-in-ScalableConsumerAssignment c = λ e d. rw c.in-ScalableConsumerAssignment.is (c.ordered_assignment.ensures e d)

pub returns-in-ScalableAssignedSegment : goal.returns-in-ScalableAssignedSegment
returns-in-ScalableAssignedSegment c = λ e d. rw c.in-ScalableAssignedSegment.is (c.ordered_segment.ensures e d)

pub returns-in-IntRange : goal.returns-in-IntRange
returns-in-IntRange c = λ e d. rw c.in-IntRange.is (c.ordered_range.ensures e d)

pub returns-in_default : goal.returns-in_default
returns-in_default c = λ e. absurd (false≢true e)
