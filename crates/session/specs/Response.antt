-- Public: response: `handle_subscribe_response_for`.
--
-- "an assignment outranks an error code. The queue is replayed over the baseline; one stale push refuses the whole response. Then baseline, last list and floor are
-- set, the queue stays to be drained from position 0. For a registered session the queue counts as empty, and acceptance empties it."
-- Refused in order: 1, 22, 3, 4, 7, 6, 23, 16 or 17, 9 to 11, 34, 12 to 15, 26, 27.
-- Assumes nothing.
use Rattle.std.specs.Prelude.{ℕ, true, cond, not, List, [], ◌∷◌, eqb, ltb, Option, Some, None, ℤ}
use Rattle.topic_types.specs.declared.ControllerIncarnation.{ControllerIncarnation}
use Rattle.refusal.specs.declared.Refusal.{Refusal}
use Rattle.refusal.specs.declared.Refusal.TheVariants.{StoreTooShort, MalformedStore, IncarnationMismatch, Broker, Empty, StaleEpoch}
use Rattle.refusal.specs.Steps.{◌>>◌, ◌>>=◌}
use Rattle.wire_schema.specs.declared.MessageKind.TheVariants.{CommandScalableTopicSubscribeResponse}
use Rattle.wire_schema.specs.FirstFault.{first_fault}
use Rattle.wire_readers.specs.Messages.{WireResponse, response_of}
use Rattle.packed.specs.Assignment.{ConsumerAssignment}
use Rattle.intake_content.specs.Content.{content_of}
use Rattle.session.specs.declared.SessionRecord.{SessionRecord}
use Rattle.session.specs.Store.{min_store, baseline_slot, list_slot, to_slot}
use Rattle.session.specs.Session as session
use Rattle.session.specs.Session.{Session, with_fields, Result, at_start, damaged, floor_fault, raise}
use Rattle.session.specs.Steps.{refuse_if, refuse_unless, refuse_due, refuse_fault, take_content}

-- 27: the first push of the queue whose epoch lies below that of the list before it, which for the first is the baseline
unfoldable pub stale_fault : ConsumerAssignment → List ConsumerAssignment → Option Refusal
stale_fault before [] = None
stale_fault before (a ∷ queue) =
    cond (ltb a.layout_epoch before.layout_epoch) (Some (StaleEpoch a.layout_epoch before.layout_epoch)) (stale_fault a queue)

-- the last list of the replay
unfoldable pub last_list : ConsumerAssignment → List ConsumerAssignment → ConsumerAssignment
last_list before [] = before
last_list before (a ∷ queue) = last_list a queue

-- the queue that is replayed
abbrev pub replayable : Session → List ConsumerAssignment
replayable s = cond s.state.registered [] s.queue

-- the record behind an accepted response that left so many in the queue
abbrev pub registered_with : Session → ConsumerAssignment → ℕ → SessionRecord
registered_with s last count =
    with_fields s.state s.state.incarnation true s.state.invalidated (raise s.state.epoch_floor last.layout_epoch) count at_start

abbrev pub register : Session → (baseline last : ConsumerAssignment) → Result
register s baseline last =
    record {
      reply = session.accepted;
      next = registered_with s last (cond s.state.registered 0 s.state.queue_count);
      writes = to_slot baseline_slot baseline ∷ to_slot list_slot last ∷ [];
    }

-- 16, or 17
abbrev pub denied : WireResponse → Option ℤ → Refusal
denied w (Some code) = Broker code
denied w None = Empty w.request_id

unfoldable pub response_call : (s : Session) (message : List ℕ) (incarnation : ControllerIncarnation) → Result
response_call s message incarnation = do
  refuse_if s (ltb s.size min_store) StoreTooShort  -- 1
  refuse_if s (damaged s) MalformedStore  -- 22
  refuse_fault s (first_fault CommandScalableTopicSubscribeResponse message)  -- 3, 4, 7, 6
  let w = response_of message
  refuse_if s (not (eqb incarnation.0 s.state.incarnation.0)) (IncarnationMismatch incarnation s.state.incarnation)  -- 23
  refuse_unless s w.has_assignment (denied w w.error)  -- 16 or 17
  baseline ← take_content s (content_of s.topic w.assignment)  -- 9 to 11, 34, 12 to 15
  refuse_due s (floor_fault baseline.layout_epoch s.state.epoch_floor)  -- 26
  refuse_due s (stale_fault baseline (replayable s))  -- 27
  register s baseline (last_list baseline (replayable s))
