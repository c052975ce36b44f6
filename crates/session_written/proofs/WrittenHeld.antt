-- What is written is what is held (`written_held`).
--
-- In order: the queue of a sound session in a store of bytes (`queue-row`, `queued`); a list in its slot (`held-list` to `baseline-kept`); the
-- calls up to the assignment (`update-is`, `response-is`), and what they leave (`registered-holds` to `alone-holds`); the theorem.
-- Assumes nothing.
use Rattle.std.specs.Prelude.{Some, None, Ok}
use Prim.Native.Nat.{ℕ, zero, suc, ◌+◌, ◌≤◌, ◌<◌, ◌^◌}
use native.Mathlib.Omega.{arith}
use mathlib.Core.Path.{◌≡◌, refl, sym, ap, ◌∙◌, subst}
use mathlib.Core.Bool.{Bool, true, false, cond, ◌&&◌}
use mathlib.Core.List.{List, [], ◌∷◌, ◌++◌, append_assoc}
use lib.ListN.{length, take, drop, length-drop, take-append-drop}
use lib.Seq.{length-take-le, take-add}
use lib.Dec.{eqb, ltb, leb}
use borrow.Author.Tests.{le-ltb, leb-true, eq-eqb, ne_eqb}
use Rattle.slice.specs.BoolLaws.{both_true}
use Rattle.slice.proofs.PartLaws.{Bytes, Bytes-take, Bytes-drop}
use Rattle.topic_types.specs.declared.ControllerIncarnation.{ControllerIncarnation}
use Rattle.slice_int.proofs.BeLaws.{bytes_of-front}
use Rattle.wire_readers.specs.Messages.{update_of, response_of}
use Rattle.name_parents.specs.Parents.{path_of}
use Rattle.keyed.proofs.EachLaws.{Each}
use Rattle.packed.specs.Assignment.{ConsumerAssignment, num, size_assignment, encode_assignment, decode_assignment, ok_assignment}
use Rattle.packed.specs.Assignment.{starts_assignment, is_assignment}
use Rattle.packed.specs.Equal.{same_assignment}
use Rattle.packed.proofs.EqualLaws.{assignment-eq}
use Rattle.packed.proofs.RoundLaws.{length-encode_assignment, fit-assignment, encode-whole}
use Rattle.packed_queue.specs.Entries.{encode_entry, encode_entries, size_entry, sheet_in, entry_end, decode_entries, starts_entry, start_entries}
use Rattle.packed_queue.proofs.EntryLaws.{Packable, length-entries_of, Row, row-none}
use Rattle.intake_content.specs.Content.{taken}
use Rattle.writer_message.specs.Message.{assignment_message, update_message, response_message}
use Rattle.writer_message.proofs.ReadBack as back
use Rattle.writer.specs.Write.{write_outcome}
use Rattle.writer.specs.Read.{Reads}
use Rattle.writer.proofs.WrittenReads.{passed, front, written-reads}
use Rattle.session.specs.declared.SessionRecord.{SessionRecord}
use Rattle.session.specs.declared.Answer.TheVariants.{Accepted, Unchanged}
use Rattle.session.specs.Store.{min_store, min_output, max_queue, baseline_slot, list_slot, identity_slot, slot, list_in}
use Rattle.session.specs.Store.{queue_in, queue_reads, queue_end, to_slot, write_one}
use Rattle.session.specs.Identity.{is_identity}
use Rattle.session.specs.Session.{Session, lists_start, in_use, view, damaged, floor_fault}
use Rattle.session.specs.Update.{update_registered, update_unregistered, update_call}
use Rattle.session.specs.Tails.{update_content, update_valid, response_assignment, response_content, response_valid}
use Rattle.session.specs.Response.{stale_fault, last_list, replayable, register, response_call}
use Rattle.session.specs.Calls.{effect_of, update_outcome, response_outcome}
use Rattle.session.proofs.SlotLaws.{length-slotted, list_same, slot-other, Queued, queue-pushed}
use Rattle.session.proofs.ViewLaws.{undamaged, last-packable}
use Rattle.session_written.specs.Held.{Ready, held_after, answer_to, WrittenHeld}

-- ---- lists that can be packed

sheet-packable : (l : List ℕ) → Bytes l → is_assignment l ≡ true → Packable (decode_assignment l)
unfolding is_assignment starts_assignment
sheet-packable l b e =
    let p = (both_true (starts_assignment l) _ e).0 in
    record { fits = fit-assignment l b; ok = (both_true (leb (size_assignment (decode_assignment l)) (length l)) (ok_assignment (decode_assignment l)) p).1 }

-- the entry at the front, as it lies
entry-lies : (l : List ℕ) → Bytes l → entry_end l ≤ length l → is_assignment (sheet_in l) ≡ true
    → encode_entry (decode_assignment (sheet_in l)) ++ drop (entry_end l) l ≡ l
unfolding encode_entry sheet_in num
entry-lies l b k e =
    let n : ℕ = num 2 l in
    let s : List ℕ = take n (drop 2 l) in
    let bytes : Bytes s = Bytes-take n (drop 2 l) (Bytes-drop 2 l b) in
    let w : encode_assignment (decode_assignment s) ≡ s = encode-whole s bytes e in
    let z : size_assignment (decode_assignment s) ≡ n =
    sym (length-encode_assignment (decode_assignment s)) ∙ ap length w ∙ length-take-le n (drop 2 l) (omega (arith, length-drop 2 l)) in
    rw (w, z, bytes_of-front 2 l (omega arith) b) (ap (◌++ drop (2 + n) l) (sym (take-add 2 n l)) ∙ take-append-drop (2 + n) l)

entries-row : (n : ℕ) (l : List ℕ) → Bytes l → start_entries n l ≡ true → Row (decode_entries n l) l
unfolding decode_entries start_entries starts_entry sheet_in encode_entries
entries-row zero l b e = row-none l
entries-row (suc n) l b e =
    let p = both_true (starts_entry l) (start_entries n (drop (entry_end l) l)) e in
    let q = both_true (leb (entry_end l) (length l)) (is_assignment (sheet_in l)) p.0 in
    let a : ConsumerAssignment = decode_assignment (sheet_in l) in
    let r = entries-row n (drop (entry_end l) l) (Bytes-drop (entry_end l) l b) p.1 in
    let left : List ConsumerAssignment = decode_entries n (drop (entry_end l) l) in
    record {
      rest = r.rest;
      is =
          sym (entry-lies l b (leb-true (entry_end l) (length l) q.0) q.1) ∙ ap (encode_entry a ++◌) r.is
          ∙ sym (append_assoc (encode_entry a) (encode_entries left) r.rest);
      packable = (sheet-packable (sheet_in l) (Bytes-take (num 2 l) (drop 2 l) (Bytes-drop 2 l b)) q.1, r.packable);
    }

module _ (r : SessionRecord) (store : List ℕ) (b : Bytes store) (h : damaged (view r store) ≡ false) where
  queue-row : Row (queue_in store r.queue_count) (drop min_store store)
  unfolding view in_use queue_in queue_reads
  queue-row =
      let n = r.queue_count in
      let u = (undamaged (view r store) h).sound in
      let p = (both_true (is_identity (slot store identity_slot)) (lists_start r.registered store && queue_reads store n) u).1 in
      entries-row n (drop min_store store) (Bytes-drop min_store store b) (both_true (lists_start r.registered store) (queue_reads store n) p).1

  queued : Queued store r.queue_count
  unfolding queue_in
  queued =
      record {
        lists = queue_in store r.queue_count;
        row = queue-row;
        counted = length-entries_of r.queue_count (drop min_store store);
      }

  replay-packable : Each Packable (replayable (view r store))
  unfolding view
  replay-packable = go r.registered
    where
      go : (t : Bool) → Each Packable (cond t [] (queue_in store r.queue_count))
      go true = tt
      go false = queue-row.packable

-- ---- a list in its slot

module _ (a : ConsumerAssignment) (store : List ℕ) (p : Packable a) (large : min_store ≤ length store) where
  held-list : list_in (write_one (to_slot list_slot a) store) list_slot ≡ a
  held-list = list_same list_slot a store p (omega arith)

  baseline-list : list_in (write_one (to_slot baseline_slot a) store) baseline_slot ≡ a
  baseline-list = list_same baseline_slot a store p (omega arith)

  baseline-length : length (write_one (to_slot baseline_slot a) store) ≡ length store
  baseline-length = length-slotted baseline_slot a store p (omega arith)

  baseline-kept : list_in (write_one (to_slot list_slot a) store) baseline_slot ≡ list_in store baseline_slot
  unfolding list_in
  baseline-kept = ap decode_assignment (slot-other list_slot a store p (omega arith) baseline_slot (λ z. omega arith))

-- ---- the calls

-- for the consumer that was written, and with an assignment
record Carried (message : List ℕ) : Type 0 where
  for : (consumer : ℕ) → consumer < 2 ^ 64 → (update_of (update_message consumer message)).consumer_id ≡ consumer
  has : (request : ℕ) → request < 2 ^ 64 → (response_of (response_message request message)).has_assignment ≡ true

module _ (parent message : List ℕ) (a : ConsumerAssignment) (reads : Reads parent message a) (carried : Carried message) (packable : Packable a)
    (r : SessionRecord) (store : List ℕ) (incarnation : ControllerIncarnation) (ready : Ready parent r store incarnation) where
  abbrev now : Session
  now = view r store

  long : ltb (length store) min_store ≡ false
  long = le-ltb (length store) min_store ready.large

  same-link : eqb incarnation.0 r.incarnation.0 ≡ true
  same-link = eq-eqb incarnation.0 r.incarnation.0 ready.link

  update-is : (out : ℕ) → min_output ≤ out → r.consumer_id < 2 ^ 64
      → update_call now (update_message r.consumer_id message) incarnation out ≡ update_content now (taken a)
  unfolding update_call update_valid update_content view
  update-is out o consumer =
      rw (
        long,
        le-ltb out min_output o,
        ready.sound,
        reads.update-valid r.consumer_id consumer,
        same-link,
        carried.for r.consumer_id consumer,
        eq-eqb r.consumer_id r.consumer_id refl,
        ready.topic,
        reads.update-taken r.consumer_id consumer,
      )

  module _ (request : ℕ) (short : request < 2 ^ 64) where
    response-is : response_call now (response_message request message) incarnation ≡ response_assignment now a
    unfolding response_call response_valid response_content response_assignment view
    response-is =
        rw (
          long,
          ready.sound,
          reads.response-valid request short,
          same-link,
          carried.has request short,
          ready.topic,
          reads.response-taken request short,
        )

  -- behind the update
  registered-holds : (out : List ℕ) → r.registered ≡ true → (list_in store list_slot).layout_epoch ≤ a.layout_epoch
      → let x = effect_of (update_content now (taken a)) store out in (x.answer ≡ answer_to (list_in store list_slot) a) × (held_after x ≡ Some a)
  unfolding update_content update_registered view
  registered-holds out t h = go (same_assignment (list_in store list_slot) a) refl
    where
      go : (b : Bool) → same_assignment (list_in store list_slot) a ≡ b
          → let x = effect_of (update_content now (taken a)) store out in (x.answer ≡ answer_to (list_in store list_slot) a) × (held_after x ≡ Some a)
      go true e = rw (t, e) (refl, ap Some (assignment-eq (list_in store list_slot) a e))
      go false e =
          rw (t, e, le-ltb a.layout_epoch (list_in store list_slot).layout_epoch h) (refl, ap Some (held-list a store packable ready.large))

  -- behind the push
  unregistered-holds : (out : List ℕ) → r.registered ≡ false → floor_fault a.layout_epoch r.epoch_floor ≡ None
      → r.queue_count < max_queue → queue_end (queue_in store r.queue_count) + size_entry a ≤ length store
      → let x = effect_of (update_content now (taken a)) store out in
      (x.answer ≡ Ok Unchanged) × (queue_in x.store x.next.queue_count ≡ queue_in store r.queue_count ++ (a ∷ []))
  unfolding update_content update_unregistered view
  unregistered-holds out t f few room =
      let n : ℕ = r.queue_count in
      let full : eqb n max_queue ≡ false = ne_eqb n max_queue (λ z. omega arith) in
      let fits : ltb (length store) (queue_end (queue_in store n) + size_entry a) ≡ false = le-ltb _ _ room in
      rw (t, f, full, fits) (refl, queue-pushed store n (queued r store ready.bytes ready.sound) a packable ready.large room)

  abbrev last : ConsumerAssignment
  last = last_list a (replayable now)

  last-packs : Packable last
  last-packs = last-packable a (replayable now) packable (replay-packable r store ready.bytes ready.sound)

  abbrev based : List ℕ
  based = write_one (to_slot baseline_slot a) store

  registers : floor_fault a.layout_epoch r.epoch_floor ≡ None → stale_fault a (replayable now) ≡ None
      → response_assignment now a ≡ register now a last
  unfolding response_assignment view
  registers f s = rw (f, s)

  -- behind the response
  register-holds : (out : List ℕ) → let x = effect_of (register now a last) store out in
      (list_in x.store baseline_slot ≡ a) × (list_in x.store list_slot ≡ last)
  register-holds out =
      let large : min_store ≤ length based = omega (arith, baseline-length a store packable ready.large, ready.large) in (
        baseline-kept last based last-packs large ∙ baseline-list a store packable ready.large,
        held-list last based last-packs large,
      )

  update-holds : (out : List ℕ) → min_output ≤ length out → r.consumer_id < 2 ^ 64 → r.registered ≡ true
      → (list_in store list_slot).layout_epoch ≤ a.layout_epoch
      → let x = update_outcome r store (update_message r.consumer_id message) incarnation out in
      (x.answer ≡ answer_to (list_in store list_slot) a) × (held_after x ≡ Some a)
  unfolding update_outcome
  update-holds out enough consumer t h = rw (update-is (length out) enough consumer) (registered-holds out t h)

  push-holds : (out : List ℕ) → min_output ≤ length out → r.consumer_id < 2 ^ 64 → r.registered ≡ false
      → floor_fault a.layout_epoch r.epoch_floor ≡ None → r.queue_count < max_queue
      → queue_end (queue_in store r.queue_count) + size_entry a ≤ length store
      → let x = update_outcome r store (update_message r.consumer_id message) incarnation out in
      (x.answer ≡ Ok Unchanged) × (queue_in x.store x.next.queue_count ≡ queue_in store r.queue_count ++ (a ∷ []))
  unfolding update_outcome
  push-holds out enough consumer t f few room = rw (update-is (length out) enough consumer) (unregistered-holds out t f few room)

  response-holds : (request : ℕ) (out : List ℕ) → request < 2 ^ 64 → floor_fault a.layout_epoch r.epoch_floor ≡ None
      → stale_fault a (replayable now) ≡ None
      → let x = response_outcome r store (response_message request message) incarnation out in
      (x.answer ≡ Ok Accepted) × (list_in x.store baseline_slot ≡ a) × (held_after x ≡ Some last)
  unfolding response_outcome
  response-holds request out q f g =
      let x = register-holds out in rw (response-is request q, registers f g) (refl, x.0, ap Some x.1)

  alone-holds : (request : ℕ) (out : List ℕ) → request < 2 ^ 64 → floor_fault a.layout_epoch r.epoch_floor ≡ None
      → replayable now ≡ []
      → let x = response_outcome r store (response_message request message) incarnation out in (x.answer ≡ Ok Accepted) × (held_after x ≡ Some a)
  unfolding stale_fault last_list
  alone-holds request out q f g =
      let y = response-holds request out q f (ap (stale_fault a) g) in
      (y.0, y.2 ∙ ap (λ (l : List ConsumerAssignment). Some (last_list a l)) g)

pub written_held : WrittenHeld
written_held s parent o n b short e =
    let p = passed s parent o n e in
    let a : ConsumerAssignment = decode_assignment s in
    let m : List ℕ = assignment_message (path_of parent) a in
    let f = fit-assignment s b in
    let l : length m < 2 ^ 64 = omega (arith, p.room) in
    let message : List ℕ = take n (write_outcome s parent o).out in
    let reads : Reads parent message a = written-reads s parent o n b short e in
    let carried : Carried message =
    subst Carried (sym (front s parent o n p e))
    (record {
      for = λ consumer c. back.update-consumer parent a f p.ok p.inside p.named l consumer c;
      has = λ request c. back.response-has parent a f p.ok p.inside p.named l request c;
    }) in
    let packable : Packable a = record { fits = f; ok = p.ok } in
    record {
      update-held = λ r store incarnation out ready enough consumer t h.
          update-holds parent message a reads carried packable r store incarnation ready out enough consumer t h;
      update-queued = λ r store incarnation out ready enough consumer t f few room.
          push-holds parent message a reads carried packable r store incarnation ready out enough consumer t f few room;
      response-held = λ r store incarnation request out ready q floor stale.
          response-holds parent message a reads carried packable r store incarnation ready request out q floor stale;
      response-alone = λ r store incarnation request out ready q floor none-queued.
          alone-holds parent message a reads carried packable r store incarnation ready request out q floor none-queued;
    }
