-- Public: a session (01, Session): the record, and what the slots and queue entries in use hold. A call gives a reply,
-- the next record, and the lists that it writes.
-- Assumes nothing.
use Rattle.std.specs.Prelude.{ℕ, zero, suc, Bool, true, false, cond, not, ◌&&◌, ◌||◌, List, [], length, get_or, replicate, ltb, Option, Some, None}
use Rattle.topic_types.specs.declared.ControllerIncarnation.{ControllerIncarnation}
use Rattle.refusal.specs.declared.Refusal.{Refusal}
use Rattle.refusal.specs.declared.Refusal.TheVariants.{CrossIncarnationEpochRegression}
use Rattle.packed.specs.Assignment.{ConsumerAssignment, starts_assignment}
use Rattle.packed_delta.specs.Delta.{AssignmentDelta}
use Rattle.session.specs.declared.SessionRecord.{SessionRecord}
use Rattle.session.specs.Store.{max_queue, baseline_slot, list_slot, identity_slot, slot, list_in, queue_in, queue_reads, Write}
use Rattle.session.specs.Identity.{identity_topic, is_identity}

pub record Session : Type 0 where
  -- the record, as it is
  pub state : SessionRecord
  -- the store's length, and whether each slot in use is well formed
  pub size : ℕ
  pub sound : Bool
  -- what the slots hold
  pub topic : List ℕ
  pub baseline : ConsumerAssignment
  pub list : ConsumerAssignment
  pub queue : List ConsumerAssignment

-- "In use are identity, the first queue-count queue" entries "and, when registered, baseline and list."
abbrev pub lists_start : Bool → List ℕ → Bool
lists_start true store = starts_assignment (slot store baseline_slot) && starts_assignment (slot store list_slot)
lists_start false store = true

unfoldable pub in_use : SessionRecord → List ℕ → Bool
in_use r store =
    is_identity (slot store identity_slot) && (lists_start r.registered store && queue_reads store r.queue_count)

-- a record and a store, read as a session
unfoldable pub view : SessionRecord → List ℕ → Session
view r store =
    record {
      state = r;
      size = length store;
      sound = in_use r store;
      topic = identity_topic (slot store identity_slot);
      baseline = list_in store baseline_slot;
      list = list_in store list_slot;
      queue = queue_in store r.queue_count;
    }

-- ---- the record: of its fields the consumer alone never changes

abbrev pub with_fields : SessionRecord → ControllerIncarnation → (registered invalidated : Bool) → Option ℕ → (count : ℕ) → (positions : List ℕ) → SessionRecord
with_fields r incarnation registered invalidated floor count positions =
    record {
      consumer_id = r.consumer_id;
      incarnation = incarnation;
      registered = registered;
      invalidated = invalidated;
      epoch_floor = floor;
      queue_count = count;
      drain_positions = positions;
    }

-- ---- the readers (02 d)

-- "The record gets eight positions instead of one"
abbrev pub readers : ℕ
readers = 8

-- how far a reader has drained the queue
abbrev pub position_of : SessionRecord → (reader : ℕ) → ℕ
position_of r reader = get_or r.drain_positions reader 0

-- "all set to 0 by response, begin and invalidate"
abbrev pub at_start : List ℕ
at_start = replicate readers 0

-- one of the first n readers is beyond a queue of so many
unfoldable pub any_beyond : (n count : ℕ) → (positions : List ℕ) → Bool
any_beyond zero count positions = false
any_beyond (suc n) count positions = ltb count (get_or positions n 0) || any_beyond n count positions

-- 22: "queued lengths or sheets do not read .. or whose queue count is above 1,024" (02 j), another slot in use malformed, or "any position beyond the queue" (02 d)
unfoldable pub damaged : Session → Bool
damaged s =
    ltb max_queue s.state.queue_count || (any_beyond readers s.state.queue_count s.state.drain_positions || not s.sound)

-- ---- what a call gives

pub data CallAnswer : Type 0 where
  refused : Refusal → CallAnswer
  accepted : CallAnswer
  unchanged : CallAnswer
  changed : AssignmentDelta → CallAnswer
  -- the entry's index in the queue, and the byte place of its list in the store
  replayed : (index place : ℕ) → AssignmentDelta → CallAnswer

pub record Result : Type 0 where
  pub reply : CallAnswer
  pub next : SessionRecord
  pub writes : List Write

-- nothing changes
abbrev pub refuse : Refusal → Session → Result
refuse x s = record { reply = refused x; next = s.state; writes = [] }

-- a refusal, or else what follows
abbrev pub unless : Option Refusal → Session → Result → Result
unless (Some x) s result = refuse x s
unless None s result = result

-- ---- the floor: the highest epoch that was accepted

-- an epoch may not lie below it: 26
abbrev pub floor_fault : ℕ → Option ℕ → Option Refusal
floor_fault epoch None = None
floor_fault epoch (Some floor) = cond (ltb epoch floor) (Some (CrossIncarnationEpochRegression epoch floor)) None

abbrev pub raise : Option ℕ → ℕ → Option ℕ
raise None epoch = Some epoch
raise (Some floor) epoch = cond (ltb floor epoch) (Some epoch) (Some floor)
