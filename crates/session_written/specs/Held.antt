-- Public: from the bytes that `to_pb` writes to the call that takes them: the list that is held is the list that was
-- written.
--
-- What the writer wrote, carried by an update or a response, is lent to the very definitions that the calls' contracts cite. The conditions
-- are those under which 1, 2, 22, 23, 24, 26, 27 and 28 are not due; that 3 to 7, 9 to 17 and 34 are not due is part of the claim. One
-- theorem, `WrittenHeld`; its proof is proofs/WrittenHeld.
-- Assumes nothing.
use Rattle.std.specs.Prelude.{ℕ, ◌+◌, ◌≤◌, ◌<◌, ◌^◌, ◌≡◌, true, false, cond, List, [], ◌∷◌, ◌++◌, length, take, Option, Some, None, Result, Ok}
use Rattle.slice.specs.Bytes.{Bytes}
use Rattle.topic_types.specs.declared.ControllerIncarnation.{ControllerIncarnation}
use Rattle.packed.specs.Assignment.{ConsumerAssignment, decode_assignment}
use Rattle.packed.specs.Equal.{same_assignment}
use Rattle.packed_queue.specs.Entries.{size_entry}
use Rattle.packed_delta.specs.Delta.{size_delta}
use Rattle.packed_delta.specs.Change.{delta_between}
use Rattle.writer_message.specs.Message.{update_message, response_message}
use Rattle.writer.specs.Write.{write_outcome}
use Rattle.session.specs.declared.SessionRecord.{SessionRecord}
use Rattle.session.specs.declared.Answer.{Answer}
use Rattle.session.specs.declared.Answer.TheVariants.{Accepted, Unchanged, Delta}
use Rattle.session.specs.Store.{min_store, min_output, max_queue, identity_slot, baseline_slot, list_slot, slot, list_in, queue_in, queue_end}
use Rattle.session.specs.Identity.{identity_topic}
use Rattle.session.specs.Session.{view, damaged, floor_fault}
use Rattle.session.specs.Response.{stale_fault, last_list, replayable}
use Rattle.session.specs.Calls.{CallOutcome, update_outcome, response_outcome}
use Rattle.session.specs.DemandThree.{held}
use Rattle.refusal.specs.declared.Refusal.{Refusal}

-- a session whose topic is the parent, in a store of bytes, to a call on which none of 1, 22 and 23 is due
pub record Ready (parent : List ℕ) (r : SessionRecord) (store : List ℕ) (incarnation : ControllerIncarnation) : Type 0 where
  pub bytes : Bytes store
  pub topic : identity_topic (slot store identity_slot) ≡ parent
  pub large : min_store ≤ length store
  pub sound : damaged (view r store) ≡ false
  pub link : incarnation.0 ≡ r.incarnation.0

-- what is held behind a call
abbrev pub held_after : CallOutcome → Option ConsumerAssignment
held_after x = held (record { state = x.next; store = x.store })

-- "a list equal in every field answers none; any other .. answers the delta"
abbrev pub answer_to : (old new : ConsumerAssignment) → Result Answer Refusal
answer_to old new = cond (same_assignment old new) (Ok Unchanged) (Ok (Delta (size_delta (delta_between old new))))

-- the message, which was written of the assignment a below that parent, is held
pub record Holds (parent message : List ℕ) (a : ConsumerAssignment) : Type 0 where
  -- an update for its consumer, with an output that is long enough, on a registered session whose list has no higher epoch: not 2, 24 or 27
  pub update-held : (r : SessionRecord) (store : List ℕ) (incarnation : ControllerIncarnation) (out : List ℕ)
      → Ready parent r store incarnation → min_output ≤ length out → r.consumer_id < 2 ^ 64
      → r.registered ≡ true → (list_in store list_slot).layout_epoch ≤ a.layout_epoch
      → let x = update_outcome r store (update_message r.consumer_id message) incarnation out in
      (x.answer ≡ answer_to (list_in store list_slot) a) × (held_after x ≡ Some a)
  -- an update for its consumer on a session that is not registered, has no higher floor, and has room in its queue: not 2, 24, 26 or 28. It joins
  -- the queue, as its last list
  pub update-queued : (r : SessionRecord) (store : List ℕ) (incarnation : ControllerIncarnation) (out : List ℕ)
      → Ready parent r store incarnation → min_output ≤ length out → r.consumer_id < 2 ^ 64
      → r.registered ≡ false → floor_fault a.layout_epoch r.epoch_floor ≡ None
      → r.queue_count < max_queue → queue_end (queue_in store r.queue_count) + size_entry a ≤ length store
      → let x = update_outcome r store (update_message r.consumer_id message) incarnation out in
      (x.answer ≡ Ok Unchanged) × (queue_in x.store x.next.queue_count ≡ queue_in store r.queue_count ++ (a ∷ []))
  -- a response to any request, on any session that has no higher floor and no stale push: not 26 or 27. It is the baseline, and what is held is
  -- the last list of the replay over it; a itself where nothing is replayed
  pub response-held : (r : SessionRecord) (store : List ℕ) (incarnation : ControllerIncarnation) (request : ℕ) (out : List ℕ)
      → Ready parent r store incarnation → request < 2 ^ 64
      → floor_fault a.layout_epoch r.epoch_floor ≡ None → stale_fault a (replayable (view r store)) ≡ None
      → let x = response_outcome r store (response_message request message) incarnation out in
      (x.answer ≡ Ok Accepted) × (list_in x.store baseline_slot ≡ a) × (held_after x ≡ Some (last_list a (replayable (view r store))))
  pub response-alone : (r : SessionRecord) (store : List ℕ) (incarnation : ControllerIncarnation) (request : ℕ) (out : List ℕ)
      → Ready parent r store incarnation → request < 2 ^ 64
      → floor_fault a.layout_epoch r.epoch_floor ≡ None → replayable (view r store) ≡ []
      → let x = response_outcome r store (response_message request message) incarnation out in
      (x.answer ≡ Ok Accepted) × (held_after x ≡ Some a)

-- of the bytes s, into an output that has fewer than 2 ^ 64 bytes, as every slice has
abbrev pub WrittenHeld : Type 0
WrittenHeld =
    (s parent out : List ℕ) (n : ℕ) → Bytes s → length out < 2 ^ 64 → (write_outcome s parent out).answer ≡ Ok n
    → Holds parent (take n (write_outcome s parent out).out) (decode_assignment s)
