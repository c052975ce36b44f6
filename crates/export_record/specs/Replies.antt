-- Public: the record and the answer of a session's call as plain structs: the answer in numbers, the record with bytes
-- for its flags. In order: the record, in and out, and the laws that hold both to each other; the answer; what a call
-- leaves.
-- Assumes nothing.
use Rattle.std.specs.Prelude.{ℕ, ◌≡◌, Bool, true, false, not, List, [], ◌∷◌, pos, eqb, Option, Some, None, Result, Ok, Err}
use Rattle.session.specs.declared.SessionRecord.{SessionRecord}
use Rattle.session.specs.declared.Answer.{Answer}
use Rattle.session.specs.declared.Answer.TheVariants as answer
use Rattle.session.specs.declared.Changed.{Changed}
use Rattle.session.specs.Calls.{CallOutcome}
use Rattle.session_record.specs.Floors.{floor_value}
use Rattle.export_reply.specs.declared.Reply.{Reply}
use Rattle.export_reply.specs.Replies.{accepted, unchanged, delta, replay, refused_reply, taken_reply}
use Rattle.export_record.specs.declared.Record.{Record}
use Rattle.export_record.specs.declared.SessionReply.{SessionReply}
use Rattle.refusal.specs.declared.Refusal.{Refusal}

-- ---- the record: a floor that is unset has the number 0 beside its flag

-- a flag is any byte: 0 says no, all others yes
abbrev pub is_set : ℕ → Bool
is_set n = not (eqb n 0)

-- and is written as 1 or 0
abbrev pub flag : Bool → ℕ
flag true = 1
flag false = 0

abbrev pub floor_of : Bool → ℕ → Option ℕ
floor_of true n = Some n
floor_of false n = None

abbrev pub floor_is_set : Option ℕ → Bool
floor_is_set None = false
floor_is_set (Some n) = true

unfoldable pub record_of : Record → SessionRecord
record_of c =
    record {
      consumer_id = c.consumer_id;
      incarnation = record { 0 = c.incarnation };
      registered = is_set c.registered;
      invalidated = is_set c.invalidated;
      epoch_floor = floor_of (is_set c.has_floor) c.epoch_floor;
      queue_count = c.queue_count;
      drain_positions = c.drain_positions;
    }

unfoldable pub export_record : SessionRecord → Record
export_record r =
    record {
      consumer_id = r.consumer_id;
      incarnation = r.incarnation.0;
      epoch_floor = floor_value r.epoch_floor;
      queue_count = r.queue_count;
      drain_positions = r.drain_positions;
      has_floor = flag (floor_is_set r.epoch_floor);
      registered = flag r.registered;
      invalidated = flag r.invalidated;
    }

-- the record that goes out comes in again as it was
abbrev pub RecordReturns : Type 0
RecordReturns = (r : SessionRecord) → record_of (export_record r) ≡ r

-- each field that goes out tells the field of its name
pub record FieldsAgree (r : SessionRecord) : Type 0 where
  pub consumer-agrees : (export_record r).consumer_id ≡ r.consumer_id
  pub incarnation-agrees : (export_record r).incarnation ≡ r.incarnation.0
  pub registered-agrees : is_set (export_record r).registered ≡ r.registered
  pub invalidated-agrees : is_set (export_record r).invalidated ≡ r.invalidated
  pub has-floor-agrees : is_set (export_record r).has_floor ≡ floor_is_set r.epoch_floor
  pub floor-agrees : (export_record r).epoch_floor ≡ floor_value r.epoch_floor
  pub queue-agrees : (export_record r).queue_count ≡ r.queue_count
  pub positions-agrees : (export_record r).drain_positions ≡ r.drain_positions

-- ---- the answer in numbers

unfoldable pub answer_reply : Result Answer Refusal → Reply
answer_reply (Err x) = refused_reply x
answer_reply (Ok answer.Accepted) = taken_reply accepted []
answer_reply (Ok answer.Unchanged) = taken_reply unchanged []
answer_reply (Ok (answer.Delta n)) = taken_reply delta (pos n ∷ [])
answer_reply (Ok (answer.Replay place n)) = taken_reply replay (pos place ∷ pos n ∷ [])

-- ---- what a call leaves

-- "A refusal changes nothing": the record that came, byte by byte
unfoldable pub left_record : Record → Result Answer Refusal → SessionRecord → Record
left_record r (Err x) next = r
left_record r (Ok answer.Accepted) next = export_record next
left_record r (Ok answer.Unchanged) next = export_record next
left_record r (Ok (answer.Delta n)) next = export_record next
left_record r (Ok (answer.Replay place n)) next = export_record next

-- a call that was given the record r
abbrev pub session_reply : Record → Result Answer Refusal → SessionRecord → SessionReply
session_reply r a next = record { state = left_record r a next; reply = answer_reply a }

abbrev pub changed_reply : Record → Changed → SessionReply
changed_reply r c = session_reply r c.answer c.next

-- an open, which was given none
abbrev pub open_reply : Result Answer Refusal → SessionRecord → SessionReply
open_reply a next = record { state = export_record next; reply = answer_reply a }

-- reply, record, store, output
pub record Lent : Type 0 where
  pub reply : Reply
  pub state : Record
  pub store : List ℕ
  pub out : List ℕ

abbrev pub lent_of : Record → CallOutcome → Lent
lent_of r o = record { reply = answer_reply o.answer; state = left_record r o.answer o.next; store = o.store; out = o.out }
