-- On a store with room for 1,024 pushes of so many bytes and with a well-formed identity, none of ours is due in a run of calls whose inputs
-- are roomy (`none-due`), so demand 2 holds of it (`demand-two-of-inputs`): its condition is no way out.
-- Assumes nothing.
use Rattle.std.specs.Prelude.{Option, Some, None, ℤ, ⊤, Result, Ok, Err}
use Prim.Native.Nat.{ℕ, suc, ◌+◌, ◌≤◌}
use native.Mathlib.Nat.{suc-mul, mul-le-mul_right}
use native.Mathlib.Omega.{arith}
use mathlib.Core.Path.{◌≡◌, refl, ap, ap₂, sym, ◌∙◌, subst}
use mathlib.Core.Bool.{Bool, true, false, not, ◌&&◌, ◌||◌, false≢true, true≢false}
use mathlib.Core.List.{List, [], ◌∷◌}
use lib.ListN.{length}
use lib.Dec.{eqb, ltb, leb}
use borrow.Author.Tests.{not-true, leb-true, le-leb, lt-leb, le-ltb, ltb-true, ltb-false, eqb-false}
use Rattle.slice.specs.BoolLaws.{both_true}
use Rattle.topic_types.specs.declared.ControllerIncarnation.{ControllerIncarnation}
use Rattle.refusal.specs.declared.Refusal.{Refusal}
use Rattle.wire_schema.specs.declared.MessageKind.TheVariants.{CommandScalableTopicAssignmentUpdate, CommandScalableTopicSubscribeResponse}
use Rattle.wire_schema.specs.FirstFault.{first_fault}
use Rattle.wire_readers.specs.Messages.{WireAssignment, WireResponse, update_of, response_of}
use Rattle.keyed.proofs.KeyedLaws.{choose}
use Rattle.packed.specs.Assignment.{ConsumerAssignment, slot_size, size_assignment}
use Rattle.packed.specs.Equal.{same_assignment}
use Rattle.intake_content.specs.Content.{Content, refused, taken, first_refusal, consumer_assignment, content_by, content_of}
use Rattle.session.specs.declared.SessionRecord.{SessionRecord}
use Rattle.keyed.proofs.EachLaws.{Each, each_append, each_take}
use Rattle.packed_queue.specs.Entries.{size_entry, decode_entries}
use Rattle.packed_queue.proofs.EntryLaws.{size-most}
use Rattle.session.specs.Store.{min_store, min_output, max_queue, identity_slot, slot, queue_in, queue_end, write_all}
use Rattle.session.specs.Identity.{is_identity}
use Rattle.session.specs.Session as session
use Rattle.session.specs.Session.{Session, readers, view, damaged, unless, floor_fault}
use Rattle.session.specs.Update.{update_unregistered, update_registered, update_call}
use Rattle.session.specs.Tails.{update_content, update_valid, update_checked, response_valid, response_content, response_assignment, response_checked}
use Rattle.session.specs.Response.{stale_fault, replayable, denied, response_call}
use Rattle.session.specs.Drain.{Found, end, entry, drained, next_for, drain_call}
use Rattle.session.specs.Calls.{CallOutcome}
use Rattle.session.specs.Trace.{Call, update, response, drain, begin, invalidate}
use Rattle.session.specs.DemandThree.{Fresh, AllOfBytes}
use Rattle.session.proofs.Model.{result_of, pushes}
use Rattle.session.proofs.ViewLaws.{Kept, kept_fresh, sound-is, damaged-is, Follows}
use Rattle.session.proofs.TraceLaws.{follow-call, step_is}
use Rattle.rust_session.specs.Demand.{topic_in, ours, is_ours, none_ours, fits_by, fits, is_taken, roomy, all_roomy, store_for, DemandTwoOfInputs, Rooms}
use Rattle.rust_session.proofs.ShownAgrees.{view-counted}
use Rattle.rust_session.proofs.OursLaws.{Theirs, theirs-floor, theirs-stale}
use Rattle.rust_session.proofs.Mirror.{ours_in}
use Rattle.rust_session.proofs.Demanded.{ours-is, demand-two}

-- ---- one call

no_true : {A : Type 0} (b : Bool) → b ≡ false → b ≡ true → A
no_true b f t = absurd (true≢false (sym t ∙ f))

clean-denied : (w : WireResponse) (e : Option ℤ) → ours (denied w e) ≡ false
clean-denied w (Some code) = refl
clean-denied w None = refl

abbrev Short : ℕ → ConsumerAssignment → Type 0
Short room a = size_assignment a ≤ room

module _ (room : ℕ) (most : room ≤ slot_size) where
  abbrev Small : ConsumerAssignment → Type 0
  Small = Short room

  -- none of ours is due, and what is pushed is small
  abbrev Clean : session.Result → Type 0
  Clean x = (ours_in x.reply ≡ false) × Each Small (pushes x.writes)

  clean-unless : (o : Option Refusal) (s : Session) (x : session.Result) → Theirs o → Clean x → Clean (unless o s x)
  clean-unless None s x t c = c
  clean-unless (Some r) s x t c = (t.0, tt)

  clean_found : (s : Session) (by : ℕ) (f : Found) → Clean (drained s by f)
  unfolding drained
  clean_found s by end = (refl, tt)
  clean_found s by (entry i d) = (refl, tt)

  clean-content : (limit : ℕ) → limit ≤ slot_size → (answer : Content → session.Result) (v : Option Refusal) (a : ConsumerAssignment)
      → fits_by v (leb (size_assignment a) limit) ≡ true → ((x : Refusal) → ours x ≡ false → Clean (answer (refused x)))
      → (size_assignment a ≤ limit → Clean (answer (taken a))) → Clean (answer (content_by v a))
  clean-content limit l answer (Some x) a h f g = f x (not-true (ours x) h)
  clean-content limit l answer None a h f g =
      let k : size_assignment a ≤ limit = leb-true (size_assignment a) limit h in
      choose (λ c. Clean (answer c)) (leb (size_assignment a) slot_size) (λ u. g k)
      (λ u. absurd (false≢true (sym u ∙ le-leb (size_assignment a) slot_size (omega arith))))

  module _ (s : Session) (big : store_for room ≤ s.size) (sound : damaged s ≡ false) (counted : length s.queue ≡ s.state.queue_count)
      (few : s.state.queue_count ≤ max_queue) (small : Each Small s.queue) where
    large : ltb s.size min_store ≡ false
    large = le-ltb s.size min_store (omega (arith, big))

    long : (out : List ℕ) → leb min_output (length out) ≡ true → ltb (length out) min_output ≡ false
    long out h = le-ltb (length out) min_output (leb-true min_output (length out) h)

    -- one more push has room
    has_room : (a : ConsumerAssignment) → Small a → eqb s.state.queue_count max_queue ≡ false
        → ltb s.size (queue_end s.queue + size_entry a) ≡ false
    has_room a h e =
        let n : ℕ = length s.queue in
        let k : suc n ≤ max_queue = below n (omega arith) (λ f. eqb-false s.state.queue_count max_queue e (sym counted ∙ f)) in
        le-ltb s.size (queue_end s.queue + size_entry a)
        (omega (arith, big, h, size-most room s.queue small, suc-mul n (2 + room), mul-le-mul_right (2 + room) k))
      where
        below : (n : ℕ) → n ≤ max_queue → (n ≡ max_queue → ⊥) → suc n ≤ max_queue
        below n l f = go (ltb n max_queue) refl
          where
            go : (b : Bool) → ltb n max_queue ≡ b → suc n ≤ max_queue
            go true t = omega (arith, ltb-true n max_queue t)
            go false t = absurd (f (omega (arith, ltb-false n max_queue t)))

    clean-pushed : (a : ConsumerAssignment) → Small a → Clean (update_content s (taken a))
    unfolding update_content update_registered update_unregistered
    clean-pushed a h =
        choose Clean s.state.registered
        (λ t.
        choose Clean (same_assignment s.list a) (λ u. (refl, tt)) (λ u.
        choose Clean (ltb a.layout_epoch s.list.layout_epoch) (λ v. (refl, tt)) (λ v. (refl, tt))))
        (λ t.
        clean-unless (floor_fault a.layout_epoch s.state.epoch_floor) s _ (theirs-floor a.layout_epoch s.state.epoch_floor)
        (choose Clean (eqb s.state.queue_count max_queue) (λ u. (refl, tt)) (λ u.
        choose Clean (ltb s.size (queue_end s.queue + size_entry a))
        (no_true (ltb s.size (queue_end s.queue + size_entry a)) (has_room a h u)) (λ v. (refl, (h, tt))))))

    clean-own : (b : ConsumerAssignment) → Clean (response_content s (taken b))
    unfolding response_content response_assignment
    clean-own b =
        clean-unless (floor_fault b.layout_epoch s.state.epoch_floor) s _ (theirs-floor b.layout_epoch s.state.epoch_floor)
        (clean-unless (stale_fault b (replayable s)) s _ (theirs-stale b (replayable s)) (refl, tt))

    module _ (message : List ℕ) (link : ControllerIncarnation) where
      clean-update : (k : Result ⊤ Refusal) → is_taken k ≡ true → fits room s.topic (update_of message).assignment ≡ true
          → Clean (update_checked s link message k)
      unfolding update_valid content_of update_content
      clean-update (Err x) h f = absurd (false≢true h)
      clean-update (Ok _) h f =
          let a : WireAssignment = (update_of message).assignment in
          choose Clean (not (eqb link.0 s.state.incarnation.0)) (λ t. (refl, tt)) (λ t.
          choose Clean (not (eqb (update_of message).consumer_id s.state.consumer_id)) (λ t. (refl, tt)) (λ t.
          clean-content room most (update_content s) (first_refusal s.topic [] a.segments) (consumer_assignment a)
          f (λ x p. (p, tt)) (clean-pushed (consumer_assignment a))))

      clean-response : (k : Result ⊤ Refusal) → is_taken k ≡ true
          → (not (response_of message).has_assignment || fits slot_size s.topic (response_of message).assignment) ≡ true
          → Clean (response_checked s link message k)
      unfolding response_valid content_of response_content
      clean-response (Err x) h f = absurd (false≢true h)
      clean-response (Ok _) h f =
          let a : WireAssignment = (response_of message).assignment in
          choose Clean (not (eqb link.0 s.state.incarnation.0)) (λ t. (refl, tt)) (λ t.
          choose Clean (response_of message).has_assignment
          (λ u.
          clean-content slot_size (omega arith) (response_content s) (first_refusal s.topic [] a.segments) (consumer_assignment a)
          (rw u at f) (λ x p. (p, tt)) (λ z. clean-own (consumer_assignment a)))
          (λ u. (clean-denied (response_of message) (response_of message).error, tt)))

    clean-call : (w : Call) → roomy room s.topic w ≡ true → Clean (result_of s w)
    unfolding update_call response_call drain_call update_valid update_content response_valid response_content response_assignment
    clean-call (update message link out) h =
        let k : (Result ⊤ Refusal) = first_fault CommandScalableTopicAssignmentUpdate message in
        let p = both_true (leb min_output (length out)) (is_taken k && fits room s.topic (update_of message).assignment) h in
        let q = both_true (is_taken k) (fits room s.topic (update_of message).assignment) p.1 in
        choose Clean (ltb s.size min_store) (no_true (ltb s.size min_store) large) (λ t.
        choose Clean (ltb (length out) min_output) (no_true (ltb (length out) min_output) (long out p.0)) (λ t.
        choose Clean (damaged s) (no_true (damaged s) sound) (λ t. clean-update message link k q.0 q.1)))
    clean-call (response message link) h =
        let k : (Result ⊤ Refusal) = first_fault CommandScalableTopicSubscribeResponse message in
        let q = both_true (is_taken k) (not (response_of message).has_assignment || fits slot_size s.topic (response_of message).assignment) h in
        choose Clean (ltb s.size min_store) (no_true (ltb s.size min_store) large) (λ t.
        choose Clean (damaged s) (no_true (damaged s) sound) (λ t. clean-response message link k q.0 q.1))
    clean-call (drain by out) h =
        let p = both_true (leb min_output (length out)) (ltb by readers) h in
        choose Clean (ltb s.size min_store) (no_true (ltb s.size min_store) large) (λ t.
        choose Clean (ltb (length out) min_output) (no_true (ltb (length out) min_output) (long out p.0)) (λ t.
        choose Clean (leb readers by) (no_true (leb readers by) (lt-leb readers by (ltb-true by readers p.1))) (λ t.
        choose Clean (damaged s) (no_true (damaged s) sound) (λ t.
        choose Clean s.state.registered (λ u. clean_found s by (next_for s by)) (λ u. (refl, tt))))))
    clean-call (begin link) h = choose Clean (ltb s.state.incarnation.0 link.0) (λ t. (refl, tt)) (λ t. (refl, tt))
    clean-call invalidate h = (refl, tt)

-- ---- the run

-- a record and a store that no call from a fresh record damages
record Well (room : ℕ) (r : SessionRecord) (st : List ℕ) : Type 0 where
  kept : Kept r st
  big : store_for room ≤ (view r st).size
  sound : (view r st).sound ≡ true
  small : Each (Short room) (view r st).queue

undamaged : (room : ℕ) (r : SessionRecord) (st : List ℕ) → Well room r st → damaged (view r st) ≡ false
unfolding view
undamaged room r st h = damaged-is r st h.kept ∙ ap not (sym (sound-is r st h.kept) ∙ h.sound)

few-queued : (r : SessionRecord) (st : List ℕ) → Kept r st → (view r st).state.queue_count ≤ max_queue
unfolding view
few-queued r st k = k.count

-- what was queued, and what the call pushed
well-next : (room : ℕ) (r : SessionRecord) (st : List ℕ) → Well room r st → (x : session.Result) → Follows r st x
    → Each (Short room) (pushes x.writes) → Well room x.next (write_all x.writes st)
well-next room r st h x f p =
    record {
      kept = f.kept;
      big = subst (λ (s : Session). store_for room ≤ s.size) (sym f.session) h.big;
      sound = ap (λ (s : Session). s.sound) f.session ∙ h.sound;
      small =
          subst (λ (s : Session). Each (Short room) s.queue) (sym f.session)
          (each_take (Short room) x.next.queue_count _ (each_append (Short room) (view r st).queue (pushes x.writes) h.small p));
    }

-- of a call with that outcome, and the calls behind it
abbrev NoneFrom : List Call → CallOutcome → Type 0
NoneFrom ws o = (not (is_ours o.answer) && none_ours o.next o.store ws) ≡ true

none_from : (room : ℕ) → room ≤ slot_size → (calls : List Call) (r : SessionRecord) (st : List ℕ) → Well room r st → AllOfBytes calls
    → all_roomy room (view r st).topic calls ≡ true → none_ours r st calls ≡ true
none_from room most [] r st h b e = refl
none_from room most (w ∷ ws) r st h b e =
    let x : session.Result = result_of (view r st) w in
    let p = both_true (roomy room (view r st).topic w) (all_roomy room (view r st).topic ws) e in
    let f : Follows r st x = follow-call r st h.kept w b.0 in
    let c : Clean room most x =
    clean-call room most (view r st) h.big (undamaged room r st h) (view-counted r st) (few-queued r st h.kept) h.small w p.0 in
    let t : all_roomy room (view x.next (write_all x.writes st)).topic ws ≡ true =
    subst (λ (s : Session). all_roomy room s.topic ws ≡ true) (sym f.session) p.1 in
    subst (NoneFrom ws) (sym (step_is r st w))
    (ap₂ (λ (u v : Bool). not u && v) (ours-is x.reply ∙ c.0)
    (none_from room most ws x.next (write_all x.writes st) (well-next room r st h x f c.1) b.1 t))

well-fresh : (room : ℕ) (r : SessionRecord) (st : List ℕ) → Fresh r → store_for room ≤ length st → is_identity (slot st identity_slot) ≡ true
    → Well room r st
unfolding view queue_in decode_entries
well-fresh room r st f big agrees =
    let k : Kept r st = kept_fresh r st f in
    record {
      kept = k;
      big = big;
      sound = sound-is r st k ∙ agrees;
      small = subst (λ (n : ℕ). Each (Short room) (queue_in st n)) (sym f.no-queue) tt;
    }

pub none-due : (r : SessionRecord) → Fresh r → (st : List ℕ) → is_identity (slot st identity_slot) ≡ true
    → (room : ℕ) → room ≤ slot_size → store_for room ≤ length st
    → (calls : List Call) → AllOfBytes calls → all_roomy room (topic_in st) calls ≡ true → none_ours r st calls ≡ true
unfolding view
none-due r f st agrees room most big calls bytes e = none_from room most calls r st (well-fresh room r st f big agrees) bytes e

pub demand-two-of-inputs : DemandTwoOfInputs
demand-two-of-inputs r f st unmarked agrees room most big calls bytes reader o e =
    let n : none_ours r st calls ≡ true = none-due r f st agrees room most big calls bytes e in
    (n, demand-two r f st unmarked calls bytes reader o n)

pub rooms : Rooms
rooms = (refl, refl)
