-- Public: demand 2: "For every run of messages that document 01's reader takes, on a full-size store and where none of
-- the refusals that 01 names as ours is due, answers, refusals and lists equal those of the Rust on the same bytes." By
-- 02 j the store may have any size, and "we compare runs whose pushes all fit".
--
-- A run is a list of calls; what it shows is a list too, of what is seen after each call (`Shown`), in the Rust's types on both sides. The
-- port's run (`port_run`) goes by the definitions that the programs' contracts cite, on the bytes of record and store; the Rust's
-- (`rust_run`) by the transcription in the crate magnetar. The Rust is fed what the reader makes of a message, and only where the reader
-- takes it. By 02 h sessions whose parent has a `?` or `#` in tenant or namespace leave the set on which the Rust is compared: the session's
-- topic is no such parent (`is_marked`).
--
-- Three statements, each proved in proofs/: `DemandTwoFed` has no other condition, and feeds the Rust the calls that none of ours refuses;
-- `DemandTwo` is 01's wording; `DemandTwoOfInputs` says when none of ours is due, by the inputs alone.
-- Assumes nothing.
use Rattle.std.specs.Prelude as std
use Rattle.std.specs.Prelude.{ℕ, ◌+◌, ◌*◌, ◌≤◌, ◌≡◌, Bool, true, false, cond, not, ◌&&◌, ◌||◌, List, [], ◌∷◌, ◌++◌, map, length, take, drop, get_or, pos, nat_abs, eqb, leb, ltb, option_map, Option, Some, None, ⊤}
use Rattle.topic_types.specs.declared.ControllerIncarnation.{ControllerIncarnation}
use Rattle.refusal.specs.declared.Refusal.{Refusal}
use Rattle.refusal.specs.Refusals.{number_of, values_of}
use Rattle.wire_schema.specs.declared.MessageKind.TheVariants.{CommandScalableTopicAssignmentUpdate, CommandScalableTopicSubscribeResponse}
use Rattle.wire_schema.specs.FirstFault.{first_fault}
use Rattle.wire_readers.specs.Messages.{WireAssignment, update_of, response_of}
use Rattle.keyed.specs.Keyed.{is_some}
use Rattle.packed.specs.Assignment as port
use Rattle.packed.specs.Assignment.{slot_size, size_assignment, decode_assignment}
use Rattle.packed_delta.specs.Delta.{decode_delta}
use Rattle.intake_content.specs.Content.{first_refusal, consumer_assignment}
use Rattle.session.specs.declared.SessionRecord.{SessionRecord}
use Rattle.session.specs.declared.Answer.{Answer}
use Rattle.session.specs.declared.Answer.TheVariants.{Accepted, Unchanged, Delta, Replay}
use Rattle.session.specs.Store.{min_store, min_output, max_queue, identity_slot, baseline_slot, slot, list_in, queue_in}
use Rattle.session.specs.Session.{readers, position_of}
use Rattle.session.specs.Identity.{identity_topic, subscription_of, consumer_name_of, identity_kind, is_identity}
use Rattle.session.specs.Calls.{CallOutcome}
use Rattle.session.specs.Trace.{Call, update, response, drain, begin, invalidate, step_of}
use Rattle.session.specs.Observers.{is_response}
use Rattle.session.specs.DemandThree.{Fresh, AllOfBytes, held}
use Rattle.rust_magnetar.specs.Result.{Result, Ok, Err}
use Rattle.rust_magnetar.specs.Text.{Text}
use Rattle.rust_magnetar.specs.Assignment.{AssignmentError, ConsumerAssignment}
use Rattle.rust_magnetar.specs.Session.{AssignmentDelta, AssignmentReplay, ScalableConsumerSession, new, take-replayed-updates}
use Rattle.rust_magnetar.specs.Session.{begin-incarnation, invalidate-authority, handle-subscribe-response-for, handle-assignment-update-for}
use Rattle.rust_names.specs.Agree.{is_marked}
use Rattle.rust_session.specs.Paper.{paper, text_of}
use Rattle.rust_session.specs.Values.{as_assignment, as_delta, as_replay, as_floor, as_type, replays}

-- ---- what is seen after a call

pub data Answered : Type 0 where
  -- with the text beside it
  refuses : Refusal → Text → Answered
  -- a response
  baseline : ConsumerAssignment → Answered
  -- begin or invalidate
  done : Answered
  -- update or drain
  no_change : Answered
  delta : AssignmentDelta → Answered
  replay : AssignmentReplay → Answered

pub record Shown : Type 0 where
  pub answered : Answered
  pub assignment : Option ConsumerAssignment
  pub epoch-floor : Option ℕ
  pub incarnation : ControllerIncarnation
  pub registered : Bool
  pub invalidated : Bool
  -- the pushes that wait for a response
  pub waiting : List ConsumerAssignment
  -- the replays that are still to be handed out
  pub undrained : List AssignmentReplay

-- ---- the port's run

abbrev pub topic_in : List ℕ → Text
topic_in store = identity_topic (slot store identity_slot)

-- "A text is handed back as a part of the message .. only `Broker` has one"
abbrev pub text_beside : Call → Refusal → Text
text_beside (update message incarnation out) x = []
text_beside (response message incarnation) x = cond (eqb (number_of x) 16) (response_of message).message []
text_beside (drain by out) x = []
text_beside (begin incarnation) x = []
text_beside invalidate x = []

-- the list at a byte place of the store
abbrev pub sheet_at : List ℕ → ℕ → port.ConsumerAssignment
sheet_at store place = decode_assignment (take slot_size (drop place store))

-- an answer, with the lists and the delta that it refers to; "The baseline is read from its slot"
abbrev pub answered_by : Call → std.Result Answer Refusal → List ℕ → List ℕ → Answered
answered_by c (std.Err x) store out = refuses x (text_beside c x)
answered_by c (std.Ok Accepted) store out = cond (is_response c) (baseline (as_assignment (topic_in store) (list_in store baseline_slot))) done
answered_by c (std.Ok Unchanged) store out = no_change
answered_by c (std.Ok (Delta n)) store out = delta (as_delta (topic_in store) (decode_delta (take n out)))
answered_by c (std.Ok (Replay place n)) store out = replay (as_replay (topic_in store) (sheet_at store place) (decode_delta (take n out)))

-- with what is left for that reader to drain
abbrev pub port_shown : (reader : ℕ) → Call → CallOutcome → Shown
port_shown reader c x =
    record {
      answered = answered_by c x.answer x.store x.out;
      assignment = option_map (as_assignment (topic_in x.store)) (held (record { state = x.next; store = x.store }));
      epoch-floor = as_floor x.next.epoch_floor;
      incarnation = x.next.incarnation;
      registered = x.next.registered;
      invalidated = x.next.invalidated;
      waiting = cond x.next.registered [] (map (as_assignment (topic_in x.store)) (queue_in x.store x.next.queue_count));
      undrained =
          cond x.next.registered
          (replays (topic_in x.store) (list_in x.store baseline_slot) (queue_in x.store x.next.queue_count) (position_of x.next reader)) [];
    }

abbrev pub port_run : (reader : ℕ) → SessionRecord → List ℕ → List Call → List Shown
port_run reader r store [] = []
port_run reader r store (c ∷ cs) =
    port_shown reader c (step_of r store c) ∷ port_run reader (step_of r store c).next (step_of r store c).store cs

-- ---- the Rust's run

-- Its caller takes the replays all at once and hands them on one by one, as the port's drain does. What it has not handed on when a
-- response is accepted, or at begin and invalidate, it drops, as the session does with those that were not taken.
pub record Caller : Type 0 where
  pub session : ScalableConsumerSession
  pub taken : List AssignmentReplay

pub record Turn : Type 0 where
  pub answered : Answered
  pub next : Caller

abbrev pub turn : Answered → ScalableConsumerSession → List AssignmentReplay → Turn
turn answered session taken = record { answered = answered; next = record { session = session; taken = taken } }

abbrev pub refusing : AssignmentError → ScalableConsumerSession → List AssignmentReplay → Turn
refusing e session taken = turn (refuses (paper e) (text_of e)) session taken

abbrev pub after_update : List AssignmentReplay → ScalableConsumerSession → Result (Option AssignmentDelta) AssignmentError → Turn
after_update taken session (Err e) = refusing e session taken
after_update taken session (Ok None) = turn no_change session taken
after_update taken session (Ok (Some d)) = turn (delta d) session taken

abbrev pub after_response : List AssignmentReplay → ScalableConsumerSession → Result ConsumerAssignment AssignmentError → Turn
after_response taken session (Err e) = refusing e session taken
after_response taken session (Ok b) = turn (baseline b) session []

abbrev pub after_link : List AssignmentReplay → ScalableConsumerSession → Result (Unit {0}) AssignmentError → Turn
after_link taken session (Err e) = refusing e session taken
after_link taken session (Ok u) = turn done session []

-- the first of those at hand is handed on
abbrev pub hand_on : ScalableConsumerSession → List AssignmentReplay → Turn
hand_on session [] = turn no_change session []
hand_on session (r ∷ rs) = turn (replay r) session rs

abbrev pub after_take : List AssignmentReplay → ScalableConsumerSession → Result (List AssignmentReplay) AssignmentError → Turn
after_take taken session (Err e) = refusing e session taken
after_take taken session (Ok rs) = hand_on session (taken ++ rs)

-- a message that the reader does not take is not fed to the Rust
abbrev pub rust_update : Caller → ControllerIncarnation → List ℕ → std.Result ⊤ Refusal → Turn
rust_update c incarnation message (std.Err x) = turn (refuses x []) c.session c.taken
rust_update c incarnation message (std.Ok _) =
    let d = handle-assignment-update-for incarnation (update_of message) c.session in after_update c.taken d.after d.result

abbrev pub rust_response : Caller → ControllerIncarnation → List ℕ → std.Result ⊤ Refusal → Turn
rust_response c incarnation message (std.Err x) = turn (refuses x []) c.session c.taken
rust_response c incarnation message (std.Ok _) =
    let d = handle-subscribe-response-for incarnation (response_of message) c.session in after_response c.taken d.after d.result

abbrev pub rust_step : Caller → Call → Turn
rust_step c (update message incarnation out) = rust_update c incarnation message (first_fault CommandScalableTopicAssignmentUpdate message)
rust_step c (response message incarnation) = rust_response c incarnation message (first_fault CommandScalableTopicSubscribeResponse message)
rust_step c (drain by out) = let d = take-replayed-updates c.session in after_take c.taken d.after d.result
rust_step c (begin incarnation) = let d = begin-incarnation incarnation c.session in after_link c.taken d.after d.result
rust_step c invalidate = let d = invalidate-authority c.session in after_link c.taken d.after d.result

abbrev pub rust_shown : Turn → Shown
rust_shown x =
    record {
      answered = x.answered;
      assignment = x.next.session.assignment;
      epoch-floor = x.next.session.epoch-floor;
      incarnation = x.next.session.incarnation;
      registered = is_some x.next.session.assignment;
      invalidated = x.next.session.invalidated;
      waiting = x.next.session.buffered-updates;
      undrained = x.next.taken ++ x.next.session.replayed-updates;
    }

abbrev pub rust_run : Caller → List Call → List Shown
rust_run c [] = []
rust_run c (m ∷ ms) = rust_shown (rust_step c m) ∷ rust_run (rust_step c m).next ms

-- the Rust's session, opened with the record's numbers and the identity slot's texts
abbrev pub opened : SessionRecord → List ℕ → Caller
opened r store =
    let identity = slot store identity_slot in
    record {
      session =
          new r.consumer_id (identity_topic identity) (subscription_of identity) (consumer_name_of identity) (as_type (identity_kind identity))
          r.incarnation;
      taken = [];
    }

-- ---- "Ours, due in these cases only: 1 to 8, 15, 20 to 22, 30, 31."; 33 (02 d: the Rust has no readers); 34 (02 e: "The Rust accepts it, so runs in which 34 is due are not
-- compared with it"); and 28 where length and list do not fit the free end, which its max tells: "1,024 or the number queued" (02 j)

abbrev pub ours_by_number : ℕ → Bool
ours_by_number n = (leb 1 n && leb n 8) || (eqb n 15 || ((leb 20 n && leb n 22) || (eqb n 30 || (eqb n 31 || (eqb n 33 || eqb n 34)))))

-- the first attached number
abbrev pub first_value : Refusal → ℕ
first_value x = nat_abs (get_or (values_of x) 0 (pos 0))

abbrev pub no_room : Refusal → Bool
no_room x = eqb (number_of x) 28 && not (eqb (first_value x) max_queue)

abbrev pub ours : Refusal → Bool
ours x = ours_by_number (number_of x) || no_room x

abbrev pub is_ours : std.Result Answer Refusal → Bool
is_ours (std.Err x) = ours x
is_ours (std.Ok Accepted) = false
is_ours (std.Ok Unchanged) = false
is_ours (std.Ok (Delta n)) = false
is_ours (std.Ok (Replay place n)) = false

-- none of ours is due in the run
abbrev pub none_ours : SessionRecord → List ℕ → List Call → Bool
none_ours r store [] = true
none_ours r store (c ∷ cs) = not (is_ours (step_of r store c).answer) && none_ours (step_of r store c).next (step_of r store c).store cs

-- the calls that none of ours refuses, and what the port shows after each of them, in its run over all
abbrev pub fed_calls : SessionRecord → List ℕ → List Call → List Call
fed_calls r store [] = []
fed_calls r store (c ∷ cs) =
    let x = step_of r store c in
    cond (is_ours x.answer) (fed_calls x.next x.store cs) (c ∷ fed_calls x.next x.store cs)

abbrev pub fed_shown : (reader : ℕ) → SessionRecord → List ℕ → List Call → List Shown
fed_shown reader r store [] = []
fed_shown reader r store (c ∷ cs) =
    let x = step_of r store c in
    cond (is_ours x.answer) (fed_shown reader x.next x.store cs) (port_shown reader c x ∷ fed_shown reader x.next x.store cs)

-- ---- "Runs against the Rust keep to drains by one reader." (02 d)

abbrev pub drains_by : (reader : ℕ) → Call → Bool
drains_by reader (update message incarnation out) = true
drains_by reader (response message incarnation) = true
drains_by reader (drain by out) = eqb by reader
drains_by reader (begin incarnation) = true
drains_by reader invalidate = true

abbrev pub one_reader : (reader : ℕ) → List Call → Bool
one_reader reader [] = true
one_reader reader (c ∷ cs) = drains_by reader c && one_reader reader cs

-- ---- the inputs of a call on which none of ours is due

-- an assignment that is refused for its content, by one of 9 to 14, or has at most so many bytes
abbrev pub fits_by : Option Refusal → Bool → Bool
fits_by None short = short
fits_by (Some x) short = not (ours x)

abbrev pub fits : ℕ → Text → WireAssignment → Bool
fits room parent a = fits_by (first_refusal parent [] a.segments) (leb (size_assignment (consumer_assignment a)) room)

abbrev pub is_taken : std.Result ⊤ Refusal → Bool
is_taken (std.Ok _) = true
is_taken (std.Err x) = false

-- pushes have room for so many bytes each
abbrev pub roomy : ℕ → Text → Call → Bool
roomy room parent (update message incarnation out) =
    leb min_output (length out)
    && (is_taken (first_fault CommandScalableTopicAssignmentUpdate message) && fits room parent (update_of message).assignment)
roomy room parent (response message incarnation) =
    is_taken (first_fault CommandScalableTopicSubscribeResponse message)
    && (not (response_of message).has_assignment || fits slot_size parent (response_of message).assignment)
roomy room parent (drain by out) = leb min_output (length out) && ltb by readers
roomy room parent (begin incarnation) = true
roomy room parent invalidate = true

abbrev pub all_roomy : ℕ → Text → List Call → Bool
all_roomy room parent [] = true
all_roomy room parent (c ∷ cs) = roomy room parent c && all_roomy room parent cs

-- the least store in which 1,024 pushes of so many bytes each have room
abbrev pub store_for : ℕ → ℕ
store_for room = min_store + max_queue * (2 + room)

-- ---- the statements

-- whatever is called: the Rust, fed the calls that none of ours refuses, shows after each what the port shows
abbrev pub DemandTwoFed : Type 0
DemandTwoFed =
    (r : SessionRecord) → Fresh r → (store : List ℕ) → is_marked (topic_in store) ≡ false
    → (calls : List Call) → AllOfBytes calls → (reader : ℕ) → one_reader reader calls ≡ true
    → fed_shown reader r store calls ≡ rust_run (opened r store) (fed_calls r store calls)

-- where none of ours is due
abbrev pub DemandTwo : Type 0
DemandTwo =
    (r : SessionRecord) → Fresh r → (store : List ℕ) → is_marked (topic_in store) ≡ false
    → (calls : List Call) → AllOfBytes calls → (reader : ℕ) → one_reader reader calls ≡ true
    → none_ours r store calls ≡ true → port_run reader r store calls ≡ rust_run (opened r store) calls

-- which is so by the inputs alone: with a well-formed identity, outputs of at least 3,210 bytes, messages that the reader takes, and
-- assignments that are refused for their content or are no longer than the store has room for. In a store of 01's full size, 2,103,296
-- bytes, that is 2,046 bytes for each push; for the longest lists, of 2,048 bytes, it takes 2,105,344 (`Rooms`).
abbrev pub DemandTwoOfInputs : Type 0
DemandTwoOfInputs =
    (r : SessionRecord) → Fresh r → (store : List ℕ) → is_marked (topic_in store) ≡ false
    → is_identity (slot store identity_slot) ≡ true → (room : ℕ) → room ≤ slot_size → store_for room ≤ length store
    → (calls : List Call) → AllOfBytes calls → (reader : ℕ) → one_reader reader calls ≡ true → all_roomy room (topic_in store) calls ≡ true
    → (none_ours r store calls ≡ true) × (port_run reader r store calls ≡ rust_run (opened r store) calls)

abbrev pub Rooms : Type 0
Rooms = (store_for 2046 ≡ 2103296) × (store_for 2048 ≡ 2105344)
