-- Public: demand 2 for the watch: over every list of updates, what is shown after each that none of ours refuses is
-- what the Rust shows, fed just those.
--
-- The port's run goes by `handle_update`, which the program's contract cites, on the bytes of buffer and output; the Rust's by the transcription in the crate magnetar. What is
-- shown is in the Rust's types: the error with its numbers and the broker's text, or the change, read from the output's bytes; and the set, read from the buffer.
-- Assumes nothing.
use Rattle.std.specs.Prelude.{ℕ, ◌+◌, ◌^◌, ◌≤◌, ◌≡◌, Bool, true, false, cond, not, ◌&&◌, ◌||◌, List, [], ◌∷◌, ◌++◌, length, take, drop, eqb, leb, ltb, ⊤, Result, Ok, Err}
use Rattle.slice.specs.Bytes.{Bytes}
use Rattle.refusal.specs.declared.Refusal.{Refusal}
use Rattle.refusal.specs.declared.Refusal.TheVariants as refusal
use Rattle.refusal.specs.Refusals.{number_of}
use Rattle.slice_int.specs.Be.{be}
use Rattle.wire_schema.specs.declared.MessageKind.TheVariants.{CommandWatchScalableTopicsUpdate}
use Rattle.wire_schema.specs.FirstFault.{first_fault}
use Rattle.wire_readers.specs.Messages.{WireEvent, none, snapshot, diff, watch_update_of}
use Rattle.watch_topics.specs.Topics.{all_short}
use Rattle.watch_topics.specs.Packed.{decode_topics, size_topics, is_set}
use Rattle.wire_values.specs.Values.{parts_of}
use Rattle.watch.specs.Watch.{WatchOutcome, handle_update}
use Rattle.rust_magnetar.specs.Result as rust
use Rattle.rust_magnetar.specs.Text.{Text}
use Rattle.rust_magnetar.specs.Watch.{TopicsChange, Snapshot, Diff, TopicsWatchError, WatchMismatch, Broker, Empty, ScalableTopicsWatch, WatchDid, handle-update}

-- ---- the Rust's errors and the refusals of 01

abbrev pub paper : TopicsWatchError → Refusal
paper (WatchMismatch got expected) = refusal.WatchMismatch got expected
paper (Broker code message) = refusal.Broker code
paper (Empty watch-id) = refusal.EmptyUpdate watch-id

abbrev pub text_of : TopicsWatchError → Text
text_of (WatchMismatch got expected) = []
text_of (Broker code message) = message
text_of (Empty watch-id) = []

-- ---- what is seen after an update

pub data Answered : Type 0 where
  -- with the text beside it
  refuses : Refusal → Text → Answered
  changes : TopicsChange → Answered

pub record Shown : Type 0 where
  pub answered : Answered
  pub topics : List Text

-- ---- the port's run

-- an update, with its own message and output
pub record Update : Type 0 where
  pub message : List ℕ
  pub out : List ℕ

-- the buffer, and the byte length of the set at its front
pub record Held : Type 0 where
  pub buffer : List ℕ
  pub used : ℕ

abbrev pub set_in : Held → List Text
set_in h = decode_topics (take h.used h.buffer)

abbrev pub watch_step : ℕ → Held → Update → WatchOutcome
watch_step id h u = handle_update h.buffer u.out id h.used u.message

-- "its byte length given and answered"
abbrev pub used_after : ℕ → Result (ℕ × ℕ) Refusal → ℕ
used_after used (Ok (set, out)) = set
used_after used (Err x) = used

abbrev pub held_after : Held → WatchOutcome → Held
held_after h x = record { buffer = x.buffer; used = used_after h.used x.answer }

-- the change that an output's bytes tell
abbrev pub change_of : List ℕ → TopicsChange
change_of [] = Snapshot []
change_of (kind ∷ l) =
    cond (eqb kind 0) (Snapshot (decode_topics l))
    (Diff (decode_topics (take (be (take 4 l)) (drop 4 l))) (decode_topics (drop (be (take 4 l)) (drop 4 l))))

abbrev pub answered_by : Update → Result (ℕ × ℕ) Refusal → List ℕ → Answered
answered_by u (Err x) out = refuses x (cond (eqb (number_of x) 16) (watch_update_of u.message).message [])
answered_by u (Ok (set, n)) out = changes (change_of (take n out))

abbrev pub port_shown : Held → Update → WatchOutcome → Shown
port_shown h u x = record { answered = answered_by u x.answer x.out; topics = set_in (held_after h x) }

-- ---- the Rust's run, fed what the reader makes of a message

abbrev pub answered_of : rust.Result TopicsChange TopicsWatchError → Answered
answered_of (rust.Ok c) = changes c
answered_of (rust.Err e) = refuses (paper e) (text_of e)

abbrev pub rust_shown : WatchDid → Shown
rust_shown d = record { answered = answered_of d.result; topics = d.after.topics }

abbrev pub rust_run : ScalableTopicsWatch → List Update → List Shown
rust_run w [] = []
rust_run w (u ∷ us) = let d = handle-update (watch_update_of u.message) w in rust_shown d ∷ rust_run d.after us

-- ---- "Ours, due in these cases only: 1 to 8, 15, 20 to 22, 30, 31."

abbrev pub ours : ℕ → Bool
ours n = (leb 1 n && leb n 8) || (eqb n 15 || ((leb 20 n && leb n 22) || (eqb n 30 || eqb n 31)))

abbrev pub is_ours : Result (ℕ × ℕ) Refusal → Bool
is_ours (Err x) = ours (number_of x)
is_ours (Ok (set, out)) = false

-- the updates that none of ours refuses, and what the port shows after each of them, in its run over all
abbrev pub fed_updates : ℕ → Held → List Update → List Update
fed_updates id h [] = []
fed_updates id h (u ∷ us) =
    let x = watch_step id h u in cond (is_ours x.answer) (fed_updates id (held_after h x) us) (u ∷ fed_updates id (held_after h x) us)

abbrev pub fed_shown : ℕ → Held → List Update → List Shown
fed_shown id h [] = []
fed_shown id h (u ∷ us) =
    let x = watch_step id h u in
    cond (is_ours x.answer) (fed_shown id (held_after h x) us) (port_shown h u x ∷ fed_shown id (held_after h x) us)

-- a message is made of bytes
abbrev pub AllOfBytes : List Update → Type 0
AllOfBytes [] = Unit {0}
AllOfBytes (u ∷ us) = Bytes u.message × AllOfBytes us

-- the Rust's watch, with the set that the buffer holds
abbrev pub opened : ℕ → Held → ScalableTopicsWatch
opened id h = record { watch-id = id; topics = set_in h }

-- ---- the statements

-- whatever is updated, from any set on
abbrev pub DemandTwoWatch : Type 0
DemandTwoWatch =
    (id : ℕ) (h : Held) → Bytes h.buffer → leb h.used (length h.buffer) ≡ true → is_set (take h.used h.buffer) ≡ true
    → (updates : List Update) → AllOfBytes updates → fed_shown id h updates ≡ rust_run (opened id h) (fed_updates id h updates)

-- ---- when none of ours is due, by the inputs alone: the set is well formed, the reader takes the message, its topics have 16-bit lengths, and what the Rust's change comes to
-- fits buffer and output

abbrev pub is_taken : Result ⊤ Refusal → Bool
is_taken (Ok v) = true
is_taken (Err x) = false

abbrev pub named_by : WireEvent → List Text
named_by none = []
named_by (snapshot fs) = parts_of 1 fs
named_by (diff fs) = parts_of 1 fs ++ parts_of 2 fs

abbrev pub fits_change : TopicsChange → ℕ → Bool
fits_change (Snapshot topics) room = leb (1 + size_topics topics) room
fits_change (Diff added removed) room = ltb (size_topics added) (2 ^ 32) && leb (5 + size_topics added + size_topics removed) room

abbrev pub fits_did : WatchDid → rust.Result TopicsChange TopicsWatchError → Held → Update → Bool
fits_did d (rust.Err e) h u = true
fits_did d (rust.Ok c) h u = leb (size_topics d.after.topics) (length h.buffer) && fits_change c (length u.out)

abbrev pub roomy : ℕ → Held → Update → Bool
roomy id h u =
    let w = watch_update_of u.message in
    let d = handle-update w (opened id h) in
    (leb h.used (length h.buffer) && is_set (take h.used h.buffer))
    && (is_taken (first_fault CommandWatchScalableTopicsUpdate u.message)
    && (all_short (named_by w.event) && fits_did d d.result h u))

abbrev pub NoneDue : Type 0
NoneDue = (id : ℕ) (h : Held) (u : Update) → roomy id h u ≡ true → is_ours (watch_step id h u).answer ≡ false

-- ---- the same of a whole run, each update on the set that the last one left: by the first set, the buffer's length, the messages and the
-- lengths of the outputs alone

-- the packed length of all topics that an update names, and of those of a run
abbrev pub named_size : Update → ℕ
named_size u = size_topics (named_by (watch_update_of u.message).event)

abbrev pub all_named : List Update → ℕ
all_named [] = 0
all_named (u ∷ us) = named_size u + all_named us

-- the reader takes the message, its topics have 16-bit lengths, and the output takes them all with the five bytes before them
abbrev pub roomy_update : Update → Bool
roomy_update u =
    is_taken (first_fault CommandWatchScalableTopicsUpdate u.message)
    && (all_short (named_by (watch_update_of u.message).event)
    && (ltb (named_size u) (2 ^ 32) && leb (5 + named_size u) (length u.out)))

abbrev pub all_roomy : List Update → Bool
all_roomy [] = true
all_roomy (u ∷ us) = roomy_update u && all_roomy us

-- none of ours is due in the run
abbrev pub none_ours : ℕ → Held → List Update → Bool
none_ours id h [] = true
none_ours id h (u ∷ us) = let x = watch_step id h u in not (is_ours x.answer) && none_ours id (held_after h x) us

-- what the port shows after each update
abbrev pub port_run : ℕ → Held → List Update → List Shown
port_run id h [] = []
port_run id h (u ∷ us) = let x = watch_step id h u in port_shown h u x ∷ port_run id (held_after h x) us

-- a well-formed set, in a buffer with room for it and for all topics that the run names
pub record RoomyRun (h : Held) (updates : List Update) : Type 0 where
  pub bytes : Bytes h.buffer
  pub set : is_set (take h.used h.buffer) ≡ true
  pub room : h.used + all_named updates ≤ length h.buffer
  pub updates-roomy : all_roomy updates ≡ true

abbrev pub NoneDueRun : Type 0
NoneDueRun = (id : ℕ) (h : Held) (updates : List Update) → RoomyRun h updates → none_ours id h updates ≡ true

-- so the Rust, fed the same updates, shows the same after each
abbrev pub DemandTwoWatchOfInputs : Type 0
DemandTwoWatchOfInputs =
    (id : ℕ) (h : Held) (updates : List Update) → AllOfBytes updates → RoomyRun h updates → port_run id h updates ≡ rust_run (opened id h) updates
