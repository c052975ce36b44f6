-- Public: demand 2 over the exported calls. An exported open answers `accepted`; whatever is then called, on the record and the store as each call
-- leaves them, a caller in C sees what the Rust shows, whose session is `new` of the same numbers, texts and kind.
--
-- What he sees (`Sees`) is read from the reply's numbers, the record's fields, the store and the output. `DemandTwoFedExported` is about any calls,
-- and leaves out those that one of ours refuses; `DemandTwoExported` is about inputs on which none of ours is due.
-- Assumes nothing.
use Rattle.std.specs.Prelude.{ℕ, ◌≤◌, ◌≡◌, Bool, true, false, cond, not, ◌&&◌, ◌||◌, List, [], ◌∷◌, map, ℤ, length, take, get_or, eqb, option_map}
use Rattle.keyed.specs.Keyed.{filter}
use Rattle.wire_readers.specs.Messages.{response_of}
use Rattle.packed.specs.Assignment.{slot_size}
use Rattle.packed_delta.specs.Delta.{decode_delta}
use Rattle.session.specs.Store.{baseline_slot, max_queue, list_in, queue_in}
use Rattle.session.specs.DemandThree.{AllOfBytes}
use Rattle.rust_magnetar.specs.Text.{Text}
use Rattle.rust_magnetar.specs.ConsumerType.{from-pb-i32}
use Rattle.rust_magnetar.specs.Session.{new}
use Rattle.rust_names.specs.Agree.{is_marked}
use Rattle.rust_session.specs.Values.{as_assignment, as_delta, as_replay, as_floor, replays}
use Rattle.rust_session.specs.Demand as rust
use Rattle.rust_session.specs.Demand.{Answered, Shown, topic_in, sheet_at, Caller, rust_run, ours_by_number, one_reader, all_roomy, store_for}
use Rattle.export_reply.specs.declared.Reply.{Reply}
use Rattle.export_reply.specs.Replies.{refused, accepted, unchanged, delta, replay, refused_reply}
use Rattle.export_record.specs.Replies.{is_set, Lent}
use Rattle.export_record.specs.Exported.{link, lent_open}
use Rattle.rust_export.specs.Calls.{ExportCall, update, response, drain, begin, invalidate, call_of, calls_of, Step, export_run, left_by_open}
use Rattle.rust_export.specs.Calls.{export_held, export_floor}

-- ---- what a caller in C sees is what the Rust shows

-- the broker's text, of a response with that number: `cuddrewyn_response_text` says where it stands
abbrev pub text_beside : ExportCall → Reply → Text
text_beside (update message incarnation out) x = []
text_beside (response message incarnation) x = cond (eqb x.number 16) (response_of message).message []
text_beside (drain reader out) x = []
text_beside (begin incarnation) x = []
text_beside invalidate x = []

-- a reply, with the lists and the delta that it refers to, tells what the Rust tells; of a refusal the number and all attached values
abbrev pub Tells : ExportCall → Lent → Answered → Type 0
Tells c l (rust.refuses x text) = (l.reply ≡ refused_reply x) × (text_beside c l.reply ≡ text)
Tells c l (rust.baseline b) = (l.reply.answer ≡ accepted) × (as_assignment (topic_in l.store) (list_in l.store baseline_slot) ≡ b)
Tells c l rust.done = l.reply.answer ≡ accepted
Tells c l rust.no_change = l.reply.answer ≡ unchanged
Tells c l (rust.delta d) = (l.reply.answer ≡ delta) × (as_delta (topic_in l.store) (decode_delta (take l.reply.first l.out)) ≡ d)
Tells c l (rust.replay x) =
    (l.reply.answer ≡ replay)
    × (as_replay (topic_in l.store) (sheet_at l.store l.reply.first) (decode_delta (take l.reply.second l.out)) ≡ x)

-- so do the record's fields and the store, with what is left for that reader to drain
pub record Sees (reader : ℕ) (c : ExportCall) (l : Lent) (x : Shown) : Type 0 where
  pub answered : Tells c l x.answered
  pub assignment : option_map (as_assignment (topic_in l.store)) (export_held l.state l.store) ≡ x.assignment
  pub epoch-floor : as_floor (export_floor l.state) ≡ x.epoch-floor
  pub incarnation : link l.state.incarnation ≡ x.incarnation
  pub registered : is_set l.state.registered ≡ x.registered
  pub invalidated : is_set l.state.invalidated ≡ x.invalidated
  pub waiting : cond (is_set l.state.registered) [] (map (as_assignment (topic_in l.store)) (queue_in l.store l.state.queue_count))
      ≡ x.waiting
  pub undrained : cond (is_set l.state.registered)
      (replays (topic_in l.store) (list_in l.store baseline_slot) (queue_in l.store l.state.queue_count)
      (get_or l.state.drain_positions reader 0)) []
      ≡ x.undrained

-- after each call
abbrev pub AllSeen : (reader : ℕ) → List Step → List Shown → Type 0
AllSeen reader [] [] = Unit {0}
AllSeen reader [] (x ∷ xs) = ⊥
AllSeen reader (s ∷ ss) [] = ⊥
AllSeen reader (s ∷ ss) (x ∷ xs) = Sees reader s.call s.left x × AllSeen reader ss xs

-- one of ours refused it: by the reply's number, and 28 by the max beside it
abbrev pub is_ours : Reply → Bool
is_ours x = eqb x.answer refused && (ours_by_number x.number || (eqb x.number 28 && not (eqb x.first max_queue)))

-- the calls that none of ours refused
abbrev pub fed : List Step → List Step
fed steps = filter (λ (s : Step). not (is_ours s.left.reply)) steps

-- ---- the statements

-- the Rust's session with the same numbers, texts and kind, before any call
abbrev pub rust_new : (consumer incarnation : ℕ) → (topic subscription consumer_name : Text) → (kind : ℤ) → Caller
rust_new consumer incarnation topic subscription consumer_name kind =
    record { session = new consumer topic subscription consumer_name (from-pb-i32 kind) (link incarnation); taken = [] }

-- whatever is called: the Rust, fed the calls that none of ours refused, shows after each what the caller in C sees
abbrev pub DemandTwoFedExported : Type 0
DemandTwoFedExported =
    (consumer incarnation : ℕ) (topic subscription consumer_name : List ℕ) (kind : ℤ) (store : List ℕ)
    → let o = left_by_open (lent_open consumer incarnation topic subscription consumer_name kind store) in
    o.reply.answer ≡ accepted → is_marked topic ≡ false
    → (calls : List ExportCall) → AllOfBytes (calls_of calls) → (reader : ℕ) → one_reader reader (calls_of calls) ≡ true
    → let steps = fed (export_run o.state o.store calls) in
    AllSeen reader steps (rust_run (rust_new consumer incarnation topic subscription consumer_name kind) (map (λ (s : Step). call_of s.call) steps))

-- inputs on which none of ours is due: the Rust, given the same calls, shows after each what the caller in C sees
abbrev pub DemandTwoExported : Type 0
DemandTwoExported =
    (consumer incarnation : ℕ) (topic subscription consumer_name : List ℕ) (kind : ℤ) (store : List ℕ)
    → let o = left_by_open (lent_open consumer incarnation topic subscription consumer_name kind store) in
    o.reply.answer ≡ accepted → is_marked topic ≡ false → (room : ℕ) → room ≤ slot_size → store_for room ≤ length store
    → (calls : List ExportCall) → AllOfBytes (calls_of calls) → (reader : ℕ) → one_reader reader (calls_of calls) ≡ true
    → all_roomy room topic (calls_of calls) ≡ true
    → AllSeen reader (export_run o.state o.store calls)
    (rust_run (rust_new consumer incarnation topic subscription consumer_name kind) (calls_of calls))
