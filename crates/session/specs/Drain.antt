-- Public: drain: `take_replayed_updates`, one per call.
--
-- "the next queue entry, from the position on, that differs from its predecessor (for the first, the baseline), as the byte place of its sheet in the store and the
-- delta; the position moves just behind that entry. Else none, with the position at the queue's end. Unregistered: none, and nothing moves."
-- The position is the reader's own (02 d). Refused in order: 1, 2, 33, 22.
-- Assumes nothing.
use Rattle.std.specs.Prelude.{ℕ, zero, suc, ◌+◌, cond, List, [], ◌∷◌, take, set, ltb, leb}
use Rattle.refusal.specs.declared.Refusal.TheVariants.{StoreTooShort, OutputTooShort, UnknownReader, MalformedStore}
use Rattle.refusal.specs.Steps.{◌>>◌}
use Rattle.packed.specs.Assignment.{ConsumerAssignment}
use Rattle.packed.specs.Equal.{same_assignment}
use Rattle.packed_delta.specs.Delta.{AssignmentDelta}
use Rattle.packed_delta.specs.Change.{delta_between}
use Rattle.session.specs.declared.SessionRecord.{SessionRecord}
use Rattle.session.specs.Store.{min_store, min_output, queue_end}
use Rattle.session.specs.Session as session
use Rattle.session.specs.Session.{Session, with_fields, Result, readers, position_of, damaged}
use Rattle.session.specs.Steps.{refuse_if, none_unless}

pub data Found : Type 0 where
  end : Found
  entry : (index : ℕ) → AssignmentDelta → Found

-- the next entry, from the k-th of the queue on, that differs from its predecessor; the first of the queue is entry i, with that list before it
unfoldable pub next_change : (i : ℕ) → ConsumerAssignment → List ConsumerAssignment → (k : ℕ) → Found
next_change i before [] k = end
next_change i before (a ∷ queue) (suc k) = next_change (suc i) a queue k
next_change i before (a ∷ queue) zero = cond (same_assignment before a) (next_change (suc i) a queue zero) (entry i (delta_between before a))

-- a reader's position moved, and no other: "each moved only by its own reader" (02 d)
abbrev pub with_position : SessionRecord → (reader k : ℕ) → SessionRecord
with_position r reader k =
    with_fields r r.incarnation r.registered r.invalidated r.epoch_floor r.queue_count (set r.drain_positions reader k)

-- "the byte place of its sheet in the store": behind those before it and its own length
abbrev pub entry_place : List ConsumerAssignment → ℕ → ℕ
entry_place queue i = queue_end (take i queue) + 2

unfoldable pub drained : Session → (reader : ℕ) → Found → Result
drained s reader end = record { reply = session.unchanged; next = with_position s.state reader s.state.queue_count; writes = [] }
drained s reader (entry i d) =
    record { reply = session.replayed i (entry_place s.queue i) d; next = with_position s.state reader (suc i); writes = [] }

-- what a reader finds
abbrev pub next_for : Session → (reader : ℕ) → Found
next_for s reader = next_change 0 s.baseline s.queue (position_of s.state reader)

unfoldable pub drain_call : (s : Session) (reader output : ℕ) → Result
drain_call s reader output = do
  refuse_if s (ltb s.size min_store) StoreTooShort  -- 1
  refuse_if s (ltb output min_output) OutputTooShort  -- 2
  refuse_if s (leb readers reader) UnknownReader  -- 33
  refuse_if s (damaged s) MalformedStore  -- 22
  none_unless s s.state.registered
  drained s reader (next_for s reader)
