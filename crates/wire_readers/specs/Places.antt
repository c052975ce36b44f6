-- Public: what the functions of src/ answer: numbers, and parts as places in the message.
-- Assumes nothing.
use Rattle.std.specs.Prelude.{ℕ, ◌+◌, ◌≤◌, ◌≡◌, List, length, take, drop, get_or, Option, Some, None}
use Rattle.wire.specs.Fields.{fields_of}
use Rattle.wire_values.specs.Values.{merged_fields}
use Rattle.wire_values.specs.Integers.{uint32_of}
use Rattle.wire_values.specs.declared.Span.{Span}
use Rattle.wire_values.specs.Places.{text_place}
use Rattle.wire_readers.specs.declared.SegmentHead.{SegmentHead}
use Rattle.wire_readers.specs.declared.UpdateHead.{UpdateHead}
use Rattle.wire_readers.specs.declared.ResponseHead.{ResponseHead}
use Rattle.wire_readers.specs.declared.WatchHead.{WatchHead}
use Rattle.wire_readers.specs.declared.Event.{Event}
use Rattle.wire_readers.specs.declared.Event.TheVariants as event
use Rattle.wire_readers.specs.Messages.{read_segment, update_of, response_of, WireEvent, none, snapshot, diff, watch_update_of}

-- a segment's head, from the numbers of its fields and the place of its topic
abbrev pub head_of : (numbers : List ℕ) (start len : ℕ) → SegmentHead
head_of numbers start len =
    record {
      segment_id = get_or numbers 1 0;
      hash_start = uint32_of (get_or numbers 2 0);
      hash_end = uint32_of (get_or numbers 3 0);
      topic_start = start;
      topic_len = len;
    }

-- a segment's numbers, and where its topic stands
pub record SegmentIs (p : List ℕ) (r : SegmentHead) : Type 0 where
  pub id : r.segment_id ≡ (read_segment p).segment_id
  pub start : r.hash_start ≡ (read_segment p).hash_start
  pub end : r.hash_end ≡ (read_segment p).hash_end
  pub inside : r.topic_start + r.topic_len ≤ length p
  pub topic : take r.topic_len (drop r.topic_start p) ≡ (read_segment p).segment_topic

-- the numbers of an update
pub record UpdateIs (m : List ℕ) (r : UpdateHead) : Type 0 where
  pub id : r.consumer_id ≡ (update_of m).consumer_id
  pub epoch : r.layout_epoch ≡ (update_of m).assignment.layout_epoch

-- the numbers of a response, and whether it has an assignment
pub record ResponseIs (m : List ℕ) (r : ResponseHead) : Type 0 where
  pub id : r.request_id ≡ (response_of m).request_id
  pub error : r.error ≡ (response_of m).error
  pub has-assignment : r.has_assignment ≡ (response_of m).has_assignment
  pub epoch : r.layout_epoch ≡ (response_of m).assignment.layout_epoch

-- the event of a watch update: its parts are those of its field from a place in the message on
abbrev pub EventIs : List ℕ → WireEvent → Option Event → Type 0
EventIs m e None = e ≡ none
EventIs m e (Some (event.Snapshot base)) = (base ≤ length m) × (e ≡ snapshot (merged_fields 2 (fields_of (drop base m))))
EventIs m e (Some (event.Diff base)) = (base ≤ length m) × (e ≡ diff (merged_fields 3 (fields_of (drop base m))))

-- the event with one more snapshot, or one more diff, in the field at a place
abbrev pub snapshot_from : Option Event → ℕ → Option Event
snapshot_from None at = Some (event.Snapshot at)
snapshot_from (Some (event.Snapshot base)) at = Some (event.Snapshot base)
snapshot_from (Some (event.Diff base)) at = Some (event.Snapshot at)

abbrev pub diff_from : Option Event → ℕ → Option Event
diff_from None at = Some (event.Diff at)
diff_from (Some (event.Snapshot base)) at = Some (event.Diff at)
diff_from (Some (event.Diff base)) at = Some (event.Diff base)

-- the numbers and the event of a watch update
pub record WatchIs (m : List ℕ) (r : WatchHead) : Type 0 where
  pub id : r.watch_id ≡ (watch_update_of m).watch_id
  pub event : EventIs m (watch_update_of m).event r.event
  pub error : r.error ≡ (watch_update_of m).error

-- where the text of a response stands in the message, and that of a watch update
abbrev pub response_place : List ℕ → Option Span
response_place m = text_place 3 m

abbrev pub watch_place : List ℕ → Option Span
watch_place m = text_place 5 m
