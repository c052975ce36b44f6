-- `ordered_assignment` meets its contract: field 1, then segments that are ordered.
-- The invariant: the fields up to `at` have no fault (`Passed`). The measure is the bytes left. Assumes nothing.
use Prim.Native.Nat.{◌-◌}
use lib.ListN.{length}
use Rattle.wire_schema.specs.declared.MessageKind.TheVariants.{ScalableConsumerAssignment, ScalableAssignedSegment}
use Rattle.wire_ordered.specs.Ordered.{Passed}
use Rattle.wire_ordered.proofs.ordered_assignment.Given as goal

abbrev pub invariant-loop-at : goal.invariant-loop-at
invariant-loop-at l = Passed ScalableConsumerAssignment ScalableAssignedSegment 2 l.s l.at

abbrev pub decreases-loop-at : goal.decreases-loop-at
decreases-loop-at l = length l.s - l.at
