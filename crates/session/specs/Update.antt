-- Public: update: `handle_assignment_update_for`.
--
-- "unregistered, it joins the queue and answers none. Registered, a list equal in every field answers none; any other list with epoch not below is held, raises the
-- floor, and answers the delta." Refused in order: 1, 2, 22, 3, 4, 7, 6, 23, 24, 9 to 11, 34, 12 to 15, then 26, 28 or 27.
-- Assumes nothing.
use Rattle.std.specs.Prelude.{ℕ, ◌+◌, cond, not, List, [], ◌∷◌, eqb, ltb, Option}
use Rattle.topic_types.specs.declared.ControllerIncarnation.{ControllerIncarnation}
use Rattle.refusal.specs.declared.Refusal.TheVariants.{StoreTooShort, OutputTooShort, MalformedStore, IncarnationMismatch}
use Rattle.refusal.specs.declared.Refusal.TheVariants.{ConsumerMismatch, StaleEpoch, PreBaselineBufferFull}
use Rattle.refusal.specs.Steps.{◌>>◌, ◌>>=◌}
use Rattle.wire_schema.specs.declared.MessageKind.TheVariants.{CommandScalableTopicAssignmentUpdate}
use Rattle.wire_schema.specs.FirstFault.{first_fault}
use Rattle.wire_readers.specs.Messages.{update_of}
use Rattle.packed.specs.Assignment.{ConsumerAssignment}
use Rattle.packed.specs.Equal.{same_assignment}
use Rattle.packed_delta.specs.Change.{delta_between}
use Rattle.intake_content.specs.Content.{content_of}
use Rattle.session.specs.declared.SessionRecord.{SessionRecord}
use Rattle.packed_queue.specs.Entries.{size_entry}
use Rattle.session.specs.Store.{min_store, min_output, max_queue, list_slot, queue_end, to_slot, push}
use Rattle.session.specs.Session as session
use Rattle.session.specs.Session.{Session, with_fields, Result, damaged, floor_fault, raise}
use Rattle.session.specs.Steps.{refuse_if, refuse_due, refuse_fault, take_content, none_if}

abbrev pub with_queue_count : SessionRecord → ℕ → SessionRecord
with_queue_count r n =
    with_fields r r.incarnation r.registered r.invalidated r.epoch_floor n r.drain_positions

abbrev pub with_floor : SessionRecord → Option ℕ → SessionRecord
with_floor r floor =
    with_fields r r.incarnation r.registered r.invalidated floor r.queue_count r.drain_positions

-- it joins the queue and answers none
abbrev pub enqueue : Session → ConsumerAssignment → Result
enqueue s a =
    record {
      reply = session.unchanged;
      next = with_queue_count s.state (s.state.queue_count + 1);
      writes = push (queue_end s.queue) a ∷ [];
    }

-- it is held, raises the floor, and answers the delta
abbrev pub hold : Session → ConsumerAssignment → Result
hold s a =
    record {
      reply = session.changed (delta_between s.list a);
      next = with_floor s.state (raise s.state.epoch_floor a.layout_epoch);
      writes = to_slot list_slot a ∷ [];
    }

-- registered: none, 27, or the list is held
unfoldable pub update_registered : Session → ConsumerAssignment → Result
update_registered s a = do
  none_if s (same_assignment s.list a)
  refuse_if s (ltb a.layout_epoch s.list.layout_epoch) (StaleEpoch a.layout_epoch s.list.layout_epoch)  -- 27
  hold s a

-- unregistered: 26, 28, or it joins the queue. 28: "if 1,024 are queued or length and sheet do not fit the free end; the attached max is 1,024 or
-- the number queued"
unfoldable pub update_unregistered : Session → ConsumerAssignment → Result
update_unregistered s a = do
  refuse_due s (floor_fault a.layout_epoch s.state.epoch_floor)  -- 26
  refuse_if s (eqb s.state.queue_count max_queue) (PreBaselineBufferFull max_queue)  -- 28
  refuse_if s (ltb s.size (queue_end s.queue + size_entry a)) (PreBaselineBufferFull s.state.queue_count)  -- 28
  enqueue s a

unfoldable pub update_call : (s : Session) (message : List ℕ) (incarnation : ControllerIncarnation) (output : ℕ) → Result
update_call s message incarnation output = do
  refuse_if s (ltb s.size min_store) StoreTooShort  -- 1
  refuse_if s (ltb output min_output) OutputTooShort  -- 2
  refuse_if s (damaged s) MalformedStore  -- 22
  refuse_fault s (first_fault CommandScalableTopicAssignmentUpdate message)  -- 3, 4, 7, 6
  let u = update_of message
  refuse_if s (not (eqb incarnation.0 s.state.incarnation.0)) (IncarnationMismatch incarnation s.state.incarnation)  -- 23
  refuse_if s (not (eqb u.consumer_id s.state.consumer_id)) (ConsumerMismatch u.consumer_id s.state.consumer_id)  -- 24
  a ← take_content s (content_of s.topic u.assignment)  -- 9 to 11, 34, 12 to 15
  cond s.state.registered (update_registered s a) (update_unregistered s a)
