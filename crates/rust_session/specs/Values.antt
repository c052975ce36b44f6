-- Public: this port's values as the Rust's. A segment's name is not stored here: it is rebuilt from parent, range and
-- id.
-- Assumes nothing.
use Rattle.std.specs.Prelude.{ℕ, zero, suc, cond, List, [], ◌∷◌, map, eqb, Option, Some, None}
use Rattle.topic_types.specs.declared.SegmentId.{SegmentId}
use Rattle.topic_types.specs.declared.ScalableConsumerType.{ScalableConsumerType}
use Rattle.topic_types.specs.declared.ScalableConsumerType.TheVariants.{Stream, Checkpoint}
use Rattle.name_parents.specs.Parents.{path_of}
use Rattle.name_topic.specs.Names.{segment_topic}
use Rattle.packed.specs.Assignment as port
use Rattle.packed.specs.Equal.{same_assignment}
use Rattle.packed_delta.specs.Delta as port-delta
use Rattle.packed_delta.specs.Change.{delta_between}
use Rattle.rust_magnetar.specs.Text.{Text}
use Rattle.rust_magnetar.specs.Assignment.{AssignedSegment, ConsumerAssignment}
use Rattle.rust_magnetar.specs.Session.{AssignmentDelta, AssignmentReplay}

abbrev pub as_id : ℕ → SegmentId
as_id id = record { 0 = id }

abbrev pub as_segment : Text → port.AssignedSegment → AssignedSegment
as_segment parent g =
    record {
      segment-id = as_id g.segment_id;
      key-range = g.range;
      bucket-ranges = g.buckets;
      segment-topic = segment_topic (path_of parent) g.range (as_id g.segment_id);
    }

abbrev pub as_assignment : Text → port.ConsumerAssignment → ConsumerAssignment
as_assignment parent a = record { layout-epoch = a.layout_epoch; segments = map (as_segment parent) a.segments }

abbrev pub as_delta : Text → port-delta.AssignmentDelta → AssignmentDelta
as_delta parent d = record { layout-epoch = d.layout_epoch; gained = map (as_segment parent) d.gained; lost = map as_id d.lost }

abbrev pub as_replay : Text → port.ConsumerAssignment → port-delta.AssignmentDelta → AssignmentReplay
as_replay parent a d = record { assignment = as_assignment parent a; delta = as_delta parent d }

abbrev pub as_floor : Option ℕ → Option ℕ
as_floor None = None
as_floor (Some epoch) = Some epoch

-- the kind of an identity slot
abbrev pub as_type : ℕ → ScalableConsumerType
as_type kind = cond (eqb kind 1) Checkpoint Stream

-- the replays that a queue still has to hand out, from its k-th entry on: every entry that differs from its predecessor, and the delta
-- between the two
abbrev pub replays : Text → port.ConsumerAssignment → List port.ConsumerAssignment → ℕ → List AssignmentReplay
replays parent before [] k = []
replays parent before (a ∷ queue) (suc k) = replays parent a queue k
replays parent before (a ∷ queue) zero =
    cond (same_assignment before a) (replays parent a queue zero) (as_replay parent a (delta_between before a) ∷ replays parent a queue zero)
