-- Public: the sender of demand 3 and the uploader of each reader, exactly as 01 and 02 d have them, and what else is
-- told from outside. None of them sees the record.
-- Assumes nothing.
use Rattle.std.specs.Prelude.{ℕ, Bool, true, false, cond, not, ◌&&◌, ◌||◌, List, [], ◌∷◌, ◌++◌, eqb, Option, Some, None, option_map}
use Rattle.keyed.specs.Keyed.{or_else, is_some}
use Rattle.wire_readers.specs.Messages.{update_of, response_of}
use Rattle.packed.specs.Assignment.{ConsumerAssignment}
use Rattle.packed_delta.specs.Delta.{AssignmentDelta}
use Rattle.packed_delta.specs.Join.{apply}
use Rattle.intake_content.specs.Content.{consumer_assignment}
use Rattle.session.specs.Session.{raise}
use Rattle.session.specs.Trace.{Call, update, response, drain, begin, invalidate, Event}

-- the assignment of an update, and "the response's own", as the message reads
abbrev pub pushed_in : (message : List ℕ) → ConsumerAssignment
pushed_in message = consumer_assignment (update_of message).assignment

abbrev pub own_in : (message : List ℕ) → ConsumerAssignment
own_in message = consumer_assignment (response_of message).assignment

-- ---- the sender: "It is fed each call and whether it was accepted, never the record."

pub record Sender : Type 0 where
  pub list : Option ConsumerAssignment
  pub pending : Option ConsumerAssignment

-- "The sender starts with no list and nothing pending."
abbrev pub silent : Sender
silent = record { list = None; pending = None }

-- "An accepted update's assignment becomes its list if it has one, else the pending one, replacing an earlier."
abbrev pub send_update : ConsumerAssignment → Sender → Sender
send_update a s =
    cond (is_some s.list) (record { list = Some a; pending = s.pending }) (record { list = None; pending = Some a })

-- "An accepted response makes its list the pending assignment, or with none pending the response's own, and empties pending."
abbrev pub send_response : ConsumerAssignment → Sender → Sender
send_response own s = record { list = or_else s.pending (Some own); pending = None }

-- "Accepted begin or invalidate: no list, nothing pending. All else: no change."
abbrev pub sent : Call → Sender → Sender
sent (update message incarnation out) s = send_update (pushed_in message) s
sent (response message incarnation) s = send_response (own_in message) s
sent (drain reader out) s = s
sent (begin incarnation) s = silent
sent invalidate s = silent

abbrev pub sender_step : Event → Sender → Sender
sender_step e s = cond e.accepted (sent e.call s) s

-- ---- the uploader: "It sees each call's kind, answer and output and, after an accepted response, the baseline slot."

abbrev pub on_delta : {A : Type 0} → Option AssignmentDelta → (AssignmentDelta → A → A) → A → A
on_delta None step kept = kept
on_delta (Some d) step kept = step d kept

-- "Each reader has an uploader of its own, which applies the deltas of updates and of that reader's drains, never another's" (02 d). What an event does to something that
-- is kept for a reader: an accepted response starts it anew, accepted begin or invalidate end it, a delta answered by update or by its own drain goes on from it, "all else
-- changes nothing"
abbrev pub followed : {A : Type 0} → (reader : ℕ) → Call → Event → (started ended : A) → (AssignmentDelta → A → A) → A → A
followed reader (update message incarnation out) e started ended step kept = on_delta e.delta step kept
followed reader (response message incarnation) e started ended step kept = cond e.accepted started kept
followed reader (drain by out) e started ended step kept = cond (eqb by reader) (on_delta e.delta step kept) kept
followed reader (begin incarnation) e started ended step kept = cond e.accepted ended kept
followed reader invalidate e started ended step kept = cond e.accepted ended kept

-- "An accepted response gives its baseline, the sheet then in that slot; accepted begin or invalidate, no list; a delta answered by update or drain is applied"
abbrev pub uploader_step : (reader : ℕ) → Event → Option ConsumerAssignment → Option ConsumerAssignment
uploader_step reader e list = followed reader e.call e (Some e.baseline) None (λ d l. option_map (apply d) l) list

-- the baseline itself
abbrev pub baseline_step : (reader : ℕ) → Event → Option ConsumerAssignment → Option ConsumerAssignment
baseline_step reader e b = followed reader e.call e (Some e.baseline) None (λ d b'. b') b

-- a response's message
abbrev pub response_in : Call → Option (List ℕ)
response_in (update message incarnation out) = None
response_in (response message incarnation) = Some message
response_in (drain reader out) = None
response_in (begin incarnation) = None
response_in invalidate = None

-- the message of the response that gave the baseline
abbrev pub response_step : (reader : ℕ) → Event → Option (List ℕ) → Option (List ℕ)
response_step reader e m = followed reader e.call e (response_in e.call) None (λ d m'. m') m

-- the deltas handed out since the baseline, in their order
abbrev pub deltas_step : (reader : ℕ) → Event → List AssignmentDelta → List AssignmentDelta
deltas_step reader e ds = followed reader e.call e [] [] (λ d l. l ++ (d ∷ [])) ds

-- "the highest epoch among baselines and deltas handed out since the first call, none before any"
abbrev pub highest_step : (reader : ℕ) → Event → Option ℕ → Option ℕ
highest_step reader e h = followed reader e.call e (raise h e.baseline.layout_epoch) h (λ d f. raise f d.layout_epoch) h

-- ---- all of them over a list of events

pub record Seen : Type 0 where
  pub sender : Sender
  pub uploader : Option ConsumerAssignment
  pub baseline : Option ConsumerAssignment
  pub response : Option (List ℕ)
  pub deltas : List AssignmentDelta
  pub highest : Option ℕ

-- "The uploader starts with no list."
abbrev pub unseen : Seen
unseen = record { sender = silent; uploader = None; baseline = None; response = None; deltas = []; highest = None }

abbrev pub see : (reader : ℕ) → Event → Seen → Seen
see reader e o =
    record {
      sender = sender_step e o.sender;
      uploader = uploader_step reader e o.uploader;
      baseline = baseline_step reader e o.baseline;
      response = response_step reader e o.response;
      deltas = deltas_step reader e o.deltas;
      highest = highest_step reader e o.highest;
    }

-- what the sender and a reader's uploader come to
abbrev pub watch : (reader : ℕ) → Seen → List Event → Seen
watch reader o [] = o
watch reader o (e ∷ es) = watch reader (see reader e o) es

-- ---- "each accepted response in it is followed by drains alone, up to and including one that answers none": of that reader, with drains of any reader in between

abbrev pub is_drain : Call → Bool
is_drain (update message incarnation out) = false
is_drain (response message incarnation) = false
is_drain (drain by out) = true
is_drain (begin incarnation) = false
is_drain invalidate = false

abbrev pub is_response : Call → Bool
is_response (update message incarnation out) = false
is_response (response message incarnation) = true
is_response (drain by out) = false
is_response (begin incarnation) = false
is_response invalidate = false

abbrev pub is_drain_by : (reader : ℕ) → Call → Bool
is_drain_by reader (update message incarnation out) = false
is_drain_by reader (response message incarnation) = false
is_drain_by reader (drain by out) = eqb by reader
is_drain_by reader (begin incarnation) = false
is_drain_by reader invalidate = false

abbrev pub drains_to_none : (reader : ℕ) → List Event → Bool
drains_to_none reader [] = false
drains_to_none reader (e ∷ es) = is_drain e.call && ((is_drain_by reader e.call && e.none) || drains_to_none reader es)

abbrev pub all_drained : (reader : ℕ) → List Event → Bool
all_drained reader [] = true
all_drained reader (e ∷ es) = (not (is_response e.call && e.accepted) || drains_to_none reader es) && all_drained reader es
