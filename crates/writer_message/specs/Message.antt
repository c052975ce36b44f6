-- Public: an assignment as a `ScalableConsumerAssignment` message (`to_pb`): "field order rising, required fields
-- always written".
--
-- A segment's topic is not held: it is built again from the parent's path, the range and the id.
-- Assumes nothing.
use Rattle.std.specs.Prelude.{ℕ, List, [], ◌∷◌, ◌++◌}
use Rattle.topic_types.specs.declared.KeyRange.{KeyRange}
use Rattle.name_topic.specs.Names.{segment_topic}
use Rattle.wire_writer.specs.Encode.{number_field, part_field}
use Rattle.packed.specs.Assignment.{AssignedSegment, ConsumerAssignment}

-- IntRange
unfoldable pub range_message : KeyRange → List ℕ
range_message r = number_field 1 r.start ++ number_field 2 r.end

-- a segment's buckets, in their order
unfoldable pub bucket_fields : List KeyRange → List ℕ
bucket_fields [] = []
bucket_fields (r ∷ rs) = part_field 5 (range_message r) ++ bucket_fields rs

abbrev pub segment_topic_of : List ℕ → AssignedSegment → List ℕ
segment_topic_of path g = segment_topic path g.range (record { 0 = g.segment_id })

-- ScalableAssignedSegment
unfoldable pub segment_message : List ℕ → AssignedSegment → List ℕ
segment_message path g =
    number_field 1 g.segment_id
    ++ (number_field 2 g.range.start ++ (number_field 3 g.range.end ++ (part_field 4 (segment_topic_of path g) ++ bucket_fields g.buckets)))

unfoldable pub segment_fields : List ℕ → List AssignedSegment → List ℕ
segment_fields path [] = []
segment_fields path (g ∷ gs) = part_field 2 (segment_message path g) ++ segment_fields path gs

-- ScalableConsumerAssignment
unfoldable pub assignment_message : List ℕ → ConsumerAssignment → List ℕ
assignment_message path a = number_field 1 a.layout_epoch ++ segment_fields path a.segments

-- ---- the messages that carry an assignment, with their own required fields alone

-- CommandScalableTopicAssignmentUpdate of a consumer
unfoldable pub update_message : ℕ → List ℕ → List ℕ
update_message consumer assignment = number_field 1 consumer ++ part_field 2 assignment

-- CommandScalableTopicSubscribeResponse to a request
unfoldable pub response_message : ℕ → List ℕ → List ℕ
response_message request assignment = number_field 1 request ++ part_field 4 assignment
