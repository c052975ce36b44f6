-- The condition on drains is needed: three lists of calls from a fresh record and a store of zeros that do not meet it for reader 0, and the
-- claim is false of each. Messages and store are bytes; the assignments differ in the epoch alone. What they come to is computed in values, and
-- said of the runs on bytes by `same`.
-- Assumes nothing.
use Rattle.std.specs.Prelude.{Option, Some, None}
use Prim.Native.Nat.{ℕ}
use native.Mathlib.Omega.{arith}
use mathlib.Core.Path.{◌≡◌, refl, ap, sym, ◌∙◌}
use mathlib.Core.Bool.{true}
use mathlib.Core.List.{List, [], ◌∷◌}
use lib.ListN.{replicate}
use lib.Pow.{are_bytes}
use Rattle.topic_types.specs.declared.ControllerIncarnation.{ControllerIncarnation}
use Rattle.slice_int.specs.Be.{be_from, be, be_at}
use Rattle.utf8.specs.Table.{text_after, is_utf8}
use Rattle.wire_schema.specs.Schema.{value_for}
use Rattle.wire_schema.specs.Required.{is_complete}
use Rattle.wire_schema.specs.FirstFault.{first_fault}
use Rattle.wire.specs.Varints.{varint_of}
use Rattle.wire.specs.Field.{key_read, number_body, part_of}
use Rattle.wire.specs.Fields.{fields_of}
use Rattle.wire_readers.specs.Messages as readers
use Rattle.wire_readers.specs.Messages.{update_of, response_of}
use Rattle.packed.specs.Assignment as packed
use Rattle.packed.specs.Assignment.{ConsumerAssignment, size_assignment, size_segments, num, decode_segments}
use Rattle.packed.specs.Equal.{same_segments, same_assignment}
use Rattle.packed_queue.specs.Entries.{size_entries, decode_entries, start_entries}
use Rattle.packed_delta.specs.Change.{without, delta_between}
use Rattle.packed_delta.specs.Join.{strike, apply}
use Rattle.intake_content.specs.Content.{first_refusal, in_id_order, consumer_assignment, content_of}
use Rattle.session.specs.declared.SessionRecord.{SessionRecord}
use Rattle.session.specs.Store.{slot, list_in, queue_in, queue_reads}
use Rattle.session.specs.Identity.{identity_topic, subscription_of, consumer_name_of, is_identity}
use Rattle.session.specs.Session.{Session, in_use, view, any_beyond, damaged}
use Rattle.session.specs.Update.{update_unregistered, update_registered, update_call}
use Rattle.session.specs.Tails.{update_content, update_valid, response_assignment, response_content, response_valid}
use Rattle.session.specs.Response.{stale_fault, last_list, response_call}
use Rattle.session.specs.Drain.{next_change, drained, drain_call}
use Rattle.session.specs.Calls.{fresh_record}
use Rattle.session.specs.Trace.{Call, update, response, drain, begin, Event, trace, End, final}
use Rattle.session.specs.Observers.{Seen, unseen, watch, all_drained}
use Rattle.session.specs.DemandThree.{OfBytes, AllOfBytes, held, Claim}
use Rattle.session_needed.proofs.Lists.{link, room, pushed, answered, unread, between, in_place, by_another}
use Rattle.session.proofs.Model.{value_trace, value_final, held_in}
use Rattle.session.proofs.ViewLaws.{kept_fresh}
use Rattle.session.proofs.TraceLaws.{bytes-of, Same, same}

-- no segments at that epoch
abbrev at : ℕ → ConsumerAssignment
at epoch = record { layout_epoch = epoch; segments = [] }

-- consumer 7's record, and a store of zeros with room for one push, whose texts are empty; the session that they are
abbrev fresh : SessionRecord
fresh = fresh_record 7 (link 1)

abbrev zeros : List ℕ
zeros = replicate 6156 0

abbrev opened : Session
opened = record { state = fresh; size = 6156; sound = true; topic = []; baseline = at 0; list = at 0; queue = [] }

opens : view fresh zeros ≡ opened
unfolding be_from be be_at text_after is_utf8 num decode_segments packed.decode_assignment decode_entries start_entries slot list_in queue_in queue_reads identity_topic
    subscription_of consumer_name_of is_identity in_use view
opens = refl

push-bytes : (epoch : ℕ) → are_bytes (8 ∷ 7 ∷ 18 ∷ 2 ∷ 8 ∷ epoch ∷ []) ≡ true → OfBytes (pushed epoch)
push-bytes epoch e = bytes-of (8 ∷ 7 ∷ 18 ∷ 2 ∷ 8 ∷ epoch ∷ []) e

answer-bytes : (epoch : ℕ) → are_bytes (8 ∷ 1 ∷ 34 ∷ 2 ∷ 8 ∷ epoch ∷ []) ≡ true → OfBytes (answered epoch)
answer-bytes epoch e = bytes-of (8 ∷ 1 ∷ 34 ∷ 2 ∷ 8 ∷ epoch ∷ []) e

-- ---- a run on bytes, and in values

abbrev end_of : List Call → End
end_of calls = final fresh zeros calls

abbrev events_of : List Call → List Event
events_of calls = trace fresh zeros calls

abbrev ClaimOf : List Call → Type 0
ClaimOf calls = Claim (held (end_of calls)) (end_of calls).state.epoch_floor (watch 0 unseen (events_of calls))

module _ (calls : List Call) (bytes : AllOfBytes calls) where
  run : Same fresh zeros calls
  run =
      same calls fresh zeros
      (kept_fresh fresh zeros
      (record { unregistered = refl; no-floor = refl; not-invalidated = refl; no-queue = refl; positions = refl }))
      bytes

  events-are : events_of calls ≡ value_trace opened calls
  events-are = run.events ∙ ap (λ s. value_trace s calls) opens

  ends-are : view (end_of calls).state (end_of calls).store ≡ value_final opened calls
  ends-are = run.ends ∙ ap (λ s. value_final s calls) opens

  held-is : held (end_of calls) ≡ held_in (value_final opened calls)
  unfolding view
  held-is = ap held_in ends-are

  floor-is : (end_of calls).state.epoch_floor ≡ (value_final opened calls).state.epoch_floor
  unfolding view
  floor-is = ap (λ (s : Session). s.state.epoch_floor) ends-are

  seen-is : watch 0 unseen (events_of calls) ≡ watch 0 unseen (value_trace opened calls)
  seen-is = ap (watch 0 unseen) events-are

-- ---- the lists of calls (Lists.antt)

unread-bytes : AllOfBytes unread
unread-bytes = (push-bytes 2 refl, (answer-bytes 1 refl, (tt, tt)))

between-bytes : AllOfBytes between
between-bytes = (push-bytes 2 refl, (answer-bytes 1 refl, (push-bytes 3 refl, (tt, (tt, tt)))))

place-bytes : AllOfBytes in_place
place-bytes = (push-bytes 2 refl, (answer-bytes 1 refl, (tt, (tt, (push-bytes 3 refl, tt)))))

another-bytes : AllOfBytes by_another
another-bytes = (push-bytes 2 refl, (answer-bytes 1 refl, (tt, (tt, tt))))

record Computed : Type 0 where
  floor : (value_final opened unread).state.epoch_floor ≡ Some 2
  highest : (watch 0 unseen (value_trace opened unread)).highest ≡ Some 1
  list : held_in (value_final opened between) ≡ Some (at 3)
  uploader : (watch 0 unseen (value_trace opened between)).uploader ≡ Some (at 2)
  drained : all_drained 0 (value_trace opened in_place) ≡ true
  last : held_in (value_final opened in_place) ≡ Some (at 3)
  replayed : held_in (value_final opened by_another) ≡ Some (at 2)
  other : (watch 0 unseen (value_trace opened by_another)).uploader ≡ Some (at 1)
  drained-by-one : all_drained 1 (value_trace opened by_another) ≡ true

computed : Computed
unfolding damaged any_beyond size_entries update_call update_valid update_content update_unregistered update_registered response_call response_valid
    response_content response_assignment stale_fault last_list next_change drained drain_call first_fault value_for is_complete fields_of key_read varint_of
    number_body part_of update_of response_of readers.read_assignment content_of first_refusal in_id_order consumer_assignment size_assignment size_segments
    delta_between without strike apply same_segments same_assignment
computed =
    record {
      floor = refl;
      highest = refl;
      list = refl;
      uploader = refl;
      drained = refl;
      last = refl;
      replayed = refl;
      other = refl;
      drained-by-one = refl;
    }

abbrev floor_epoch : Option ℕ → ℕ
floor_epoch None = 0
floor_epoch (Some epoch) = epoch

abbrev list_epoch : Option ConsumerAssignment → ℕ
list_epoch None = 0
list_epoch (Some a) = a.layout_epoch

-- the floor is 2, and the highest epoch handed out is 1
pub floor-above : ClaimOf unread → ⊥
floor-above c =
    let p : (end_of unread).state.epoch_floor ≡ Some 2 = floor-is unread unread-bytes ∙ computed.floor in
    let q : (watch 0 unseen (events_of unread)).highest ≡ Some 1 = ap (λ (o : Seen). o.highest) (seen-is unread unread-bytes) ∙ computed.highest in
    let e : ◌≡◌ {A = ℕ} 2 1 = ap floor_epoch (sym p ∙ c.highest ∙ q) in
    omega arith

-- epoch 3 is held, and the uploader has epoch 2
pub lists-apart : ClaimOf between → ⊥
lists-apart c =
    let p : held (end_of between) ≡ Some (at 3) = held-is between between-bytes ∙ computed.list in
    let q : (watch 0 unseen (events_of between)).uploader ≡ Some (at 2) =
    ap (λ (o : Seen). o.uploader) (seen-is between between-bytes) ∙ computed.uploader in
    let e : ◌≡◌ {A = ℕ} 3 2 = ap list_epoch (sym p ∙ c.uploaded ∙ q) in
    omega arith

-- epoch 2 is held, and reader 0's uploader has epoch 1: the none that reader 1 was answered is none of reader 0's
pub other-reader : (all_drained 1 (events_of by_another) ≡ true) × (ClaimOf by_another → ⊥)
other-reader = (ap (all_drained 1) (events-are by_another another-bytes) ∙ computed.drained-by-one, apart)
  where
    apart : ClaimOf by_another → ⊥
    apart c =
        let p : held (end_of by_another) ≡ Some (at 2) = held-is by_another another-bytes ∙ computed.replayed in
        let q : (watch 0 unseen (events_of by_another)).uploader ≡ Some (at 1) =
        ap (λ (o : Seen). o.uploader) (seen-is by_another another-bytes) ∙ computed.other in
        let e : ◌≡◌ {A = ℕ} 2 1 = ap list_epoch (sym p ∙ c.uploaded ∙ q) in
        omega arith

-- with the drains in their place the condition is met, and a list is held
pub drained-between : (all_drained 0 (events_of in_place) ≡ true) × (held (end_of in_place) ≡ Some (at 3))
drained-between = (ap (all_drained 0) (events-are in_place place-bytes) ∙ computed.drained, held-is in_place place-bytes ∙ computed.last)
