-- Public: what each exported call of a session leaves, as a caller in C has it: numbers, a plain record, bytes. The contracts in
-- crates/export/src/session_calls.rt and the demands of crates/rust_export cite these.
-- Assumes nothing.
use Rattle.std.specs.Prelude.{ℕ, List, ℤ}
use Rattle.topic_types.specs.declared.ControllerIncarnation.{ControllerIncarnation}
use Rattle.topic_types.specs.ConsumerTypes.{from_wire}
use Rattle.session.specs.Identity.{Identity}
use Rattle.session.specs.Link.{begin_of, invalidate_of}
use Rattle.session.specs.Calls.{update_outcome, response_outcome, drain_outcome, OpenOutcome, open_outcome}
use Rattle.export_record.specs.declared.Record.{Record}
use Rattle.export_record.specs.declared.SessionReply.{SessionReply}
use Rattle.export_record.specs.Replies.{record_of, changed_reply, open_reply, Lent, lent_of}

abbrev pub link : ℕ → ControllerIncarnation
link incarnation = record { 0 = incarnation }

-- what `cuddrewyn_open` leaves: the reply with the record, and the store; the kind is the integer of the wire
pub record Opening : Type 0 where
  pub call : SessionReply
  pub store : List ℕ

abbrev pub open_of : OpenOutcome → Opening
open_of o = record { call = open_reply o.answer o.next; store = o.store }

abbrev pub lent_open : (consumer incarnation : ℕ) → (topic subscription consumer_name : List ℕ) → (kind : ℤ) → (store : List ℕ) → Opening
lent_open consumer incarnation topic subscription consumer_name kind store =
    let i : Identity = record { topic = topic; subscription = subscription; consumer_name = consumer_name; consumer_type = from_wire kind } in
    open_of (open_outcome consumer (link incarnation) i store)

-- begin and invalidate are lent the record alone
abbrev pub lent_begin : Record → (incarnation : ℕ) → SessionReply
lent_begin r incarnation = changed_reply r (begin_of (record_of r) (link incarnation))

abbrev pub lent_invalidate : Record → SessionReply
lent_invalidate r = changed_reply r (invalidate_of (record_of r))

abbrev pub lent_update : Record → (store message : List ℕ) → (incarnation : ℕ) → (out : List ℕ) → Lent
lent_update r store message incarnation out = lent_of r (update_outcome (record_of r) store message (link incarnation) out)

-- a response is lent no output: whatever stands there stays
abbrev pub lent_response : Record → (store message : List ℕ) → (incarnation : ℕ) → (out : List ℕ) → Lent
lent_response r store message incarnation out = lent_of r (response_outcome (record_of r) store message (link incarnation) out)

abbrev pub lent_drain : Record → (store : List ℕ) → (reader : ℕ) → (out : List ℕ) → Lent
lent_drain r store reader out = lent_of r (drain_outcome (record_of r) store reader out)
