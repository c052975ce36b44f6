-- Public: the exported calls of a session, one after the other, as a caller in C has them: numbers, a plain record, bytes.
--
-- In order: the five calls, and what each leaves; a list of them, each with the record and the store as the last left them; what is read
-- from a record and from a reply. What a call leaves is what its contract in crates/export/src/session_calls.rt says, by the same definitions.
-- Assumes nothing.
use Rattle.std.specs.Prelude.{ℕ, cond, not, List, [], ◌∷◌, map, take, eqb, Option, Some, None}
use Rattle.packed.specs.Assignment.{ConsumerAssignment}
use Rattle.packed_delta.specs.Delta.{AssignmentDelta, decode_delta}
use Rattle.session.specs.Store.{baseline_slot, list_slot, list_in}
use Rattle.session.specs.Trace as trace
use Rattle.session.specs.Trace.{Call, Event}
use Rattle.export_reply.specs.declared.Reply.{Reply}
use Rattle.export_reply.specs.Replies.{refused, unchanged, delta, replay}
use Rattle.export_record.specs.declared.Record.{Record}
use Rattle.export_record.specs.declared.SessionReply.{SessionReply}
use Rattle.export_record.specs.Replies.{is_set, Lent}
use Rattle.export_record.specs.Exported.{link, Opening, lent_begin, lent_invalidate, lent_update, lent_response, lent_drain}

-- a call that is lent no output
abbrev pub no_output : SessionReply → (store : List ℕ) → Lent
no_output x store = record { reply = x.reply; state = x.state; store = store; out = [] }

-- ---- `cuddrewyn_update`, `cuddrewyn_response`, `cuddrewyn_drain_for`, `cuddrewyn_begin`, `cuddrewyn_invalidate`

pub data ExportCall : Type 0 where
  update : (message : List ℕ) → (incarnation : ℕ) → (out : List ℕ) → ExportCall
  response : (message : List ℕ) → (incarnation : ℕ) → ExportCall
  drain : (reader : ℕ) → (out : List ℕ) → ExportCall
  begin : (incarnation : ℕ) → ExportCall
  invalidate : ExportCall

-- the call of 01 that it is
abbrev pub call_of : ExportCall → Call
call_of (update message incarnation out) = trace.update message (link incarnation) out
call_of (response message incarnation) = trace.response message (link incarnation)
call_of (drain reader out) = trace.drain reader out
call_of (begin incarnation) = trace.begin (link incarnation)
call_of invalidate = trace.invalidate

abbrev pub calls_of : List ExportCall → List Call
calls_of calls = map call_of calls

-- what a call leaves: reply, record, store, output; open, begin and invalidate are lent no output
abbrev pub left_by_open : Opening → Lent
left_by_open o = no_output o.call o.store

abbrev pub lent_step : Record → (store : List ℕ) → ExportCall → Lent
lent_step r store (update message incarnation out) = lent_update r store message incarnation out
lent_step r store (response message incarnation) = lent_response r store message incarnation []
lent_step r store (drain reader out) = lent_drain r store reader out
lent_step r store (begin incarnation) = no_output (lent_begin r incarnation) store
lent_step r store invalidate = no_output (lent_invalidate r) store

-- ---- a list of calls: "each call gets both as the last left them"

pub record Step : Type 0 where
  pub call : ExportCall
  pub left : Lent

abbrev pub export_run : Record → (store : List ℕ) → List ExportCall → List Step
export_run r store [] = []
export_run r store (c ∷ cs) =
    record { call = c; left = lent_step r store c } ∷ export_run (lent_step r store c).state (lent_step r store c).store cs

-- the record and the store at the end
pub record ExportEnd : Type 0 where
  pub state : Record
  pub store : List ℕ

abbrev pub export_final : Record → (store : List ℕ) → List ExportCall → ExportEnd
export_final r store [] = record { state = r; store = store }
export_final r store (c ∷ cs) = export_final (lent_step r store c).state (lent_step r store c).store cs

-- ---- read from a record and its store

-- "Held: the list slot's sheet while registered, else no list."
abbrev pub export_held : Record → (store : List ℕ) → Option ConsumerAssignment
export_held r store = cond (is_set r.registered) (Some (list_in store list_slot)) None

abbrev pub export_floor : Record → Option ℕ
export_floor r = cond (is_set r.has_floor) (Some r.epoch_floor) None

-- ---- read from a reply's numbers and the output's bytes

-- a delta that is handed out: its length is the first value, behind a place in the store the second
abbrev pub delta_in : Reply → (out : List ℕ) → Option AssignmentDelta
delta_in x out =
    cond (eqb x.answer delta) (Some (decode_delta (take x.first out)))
    (cond (eqb x.answer replay) (Some (decode_delta (take x.second out))) None)

-- a call, whether it was accepted, whether it answers none, the delta in its output, and the sheet then in the baseline slot
abbrev pub export_event : Step → Event
export_event s =
    record {
      call = call_of s.call;
      accepted = not (eqb s.left.reply.answer refused);
      none = eqb s.left.reply.answer unchanged;
      delta = delta_in s.left.reply s.left.out;
      baseline = list_in s.left.store baseline_slot;
    }

abbrev pub export_trace : Record → (store : List ℕ) → List ExportCall → List Event
export_trace r store calls = map export_event (export_run r store calls)
