-- Public: what the messages say: each message's values, read from its row of fields under the names of PulsarApi.proto.
--
-- The readers are total: a number that is missing is 0, a text that is missing is empty. Which messages are taken at all is `first_fault` of the crate
-- schema. A singular message's fields are those of all its parts (`merged_fields`).
-- Assumes nothing.
use Rattle.std.specs.Prelude.{ℕ, Bool, cond, List, [], ◌∷◌, map, eqb, ℤ, Option, Some, None}
use Rattle.wire.specs.Fields.{Field, fields_of}
use Rattle.wire_values.specs.Values.{numbers_of, parts_of, present, last_of, last_part, merged_fields, number_in, Member, absent, holds, member_of}
use Rattle.wire_values.specs.Integers.{uint32_of, int32_of}
use Rattle.wire_readers.specs.declared.IntRange.{IntRange}

-- ---- assignments

-- IntRange
unfoldable pub int_range_of : List ℕ → IntRange
int_range_of p = record { start = int32_of (number_in 1 (fields_of p)); end = int32_of (number_in 2 (fields_of p)) }

-- ScalableAssignedSegment
pub record WireSegment : Type 0 where
  pub segment_id : ℕ
  pub hash_start : ℕ
  pub hash_end : ℕ
  pub segment_topic : List ℕ
  pub bucket_ranges : List IntRange

unfoldable pub read_segment : List ℕ → WireSegment
read_segment p =
    record {
      segment_id = number_in 1 (fields_of p);
      hash_start = uint32_of (number_in 2 (fields_of p));
      hash_end = uint32_of (number_in 3 (fields_of p));
      segment_topic = last_part (parts_of 4 (fields_of p));
      bucket_ranges = map int_range_of (parts_of 5 (fields_of p));
    }

-- ScalableConsumerAssignment, by its fields
pub record WireAssignment : Type 0 where
  pub layout_epoch : ℕ
  pub segments : List WireSegment

unfoldable pub read_assignment : List Field → WireAssignment
read_assignment fs = record { layout_epoch = number_in 1 fs; segments = map read_segment (parts_of 2 fs) }

-- ---- CommandScalableTopicAssignmentUpdate

pub record WireUpdate : Type 0 where
  pub consumer_id : ℕ
  pub assignment : WireAssignment

unfoldable pub update_of : List ℕ → WireUpdate
update_of m = record { consumer_id = number_in 1 (fields_of m); assignment = read_assignment (merged_fields 2 (fields_of m)) }

-- ---- CommandScalableTopicSubscribeResponse

-- an error code, which keeps unknown values
abbrev pub code_of : Option ℕ → Option ℤ
code_of (Some v) = Some (int32_of v)
code_of None = None

pub record WireResponse : Type 0 where
  pub request_id : ℕ
  pub error : Option ℤ
  pub message : List ℕ
  pub has_assignment : Bool
  pub assignment : WireAssignment

unfoldable pub response_of : List ℕ → WireResponse
response_of m =
    record {
      request_id = number_in 1 (fields_of m);
      error = code_of (last_of (numbers_of 2 (fields_of m)));
      message = last_part (parts_of 3 (fields_of m));
      has_assignment = present (parts_of 4 (fields_of m));
      assignment = read_assignment (merged_fields 4 (fields_of m));
    }

-- ---- CommandWatchScalableTopicsUpdate

-- ScalableTopicsSnapshot or ScalableTopicsDiff, by its fields; none where neither is there
pub data WireEvent : Type 0 where
  none : WireEvent
  snapshot : List Field → WireEvent
  diff : List Field → WireEvent

-- the members of the oneof `event`: field 2 is a snapshot, field 3 a diff
abbrev pub event_fields : List ℕ
event_fields = 2 ∷ 3 ∷ []

abbrev pub event_by : Member → WireEvent
event_by absent = none
event_by (holds f fs) = cond (eqb f 2) (snapshot fs) (diff fs)

unfoldable pub read_event : List Field → WireEvent
read_event fs = event_by (member_of event_fields fs)

pub record WireWatchUpdate : Type 0 where
  pub watch_id : ℕ
  pub event : WireEvent
  pub error : Option ℤ
  pub message : List ℕ

unfoldable pub watch_update_of : List ℕ → WireWatchUpdate
watch_update_of m =
    record {
      watch_id = number_in 1 (fields_of m);
      event = read_event (fields_of m);
      error = code_of (last_of (numbers_of 4 (fields_of m)));
      message = last_part (parts_of 5 (fields_of m));
    }
