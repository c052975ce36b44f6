-- An update: `handle_assignment_update_for` answers as this port's update does, where ours do not refuse, and the sessions stay alike
-- (`fair-update`).
-- Assumes nothing.
use Rattle.std.specs.Prelude.{Option, None, ⊤, Result, Ok, Err}
use Prim.Native.Nat.{ℕ, ◌+◌}
use native.Mathlib.Omega.{arith}
use mathlib.Core.Path.{◌≡◌, refl, ap, sym, ◌∙◌, subst}
use mathlib.Core.Bool.{Bool, true, false, cond, not, false≢true, true≢false}
use mathlib.Core.List.{List, [], ◌∷◌, ◌++◌, map}
use mathlib.Core.Logic.{◌⊎◌, inl, inr}
use lib.ListN.{length, length-append}
use lib.Seq.{take_all}
use lib.Dec.{eqb, ltb}
use borrow.Author.Tests.{le-ltb}
use Rattle.topic_types.specs.declared.ControllerIncarnation.{ControllerIncarnation}
use Rattle.refusal.specs.declared.Refusal.TheVariants as refusal
use Rattle.wire_schema.specs.declared.MessageKind.TheVariants.{CommandScalableTopicAssignmentUpdate}
use Rattle.wire_schema.specs.FirstFault.{first_fault}
use Rattle.wire_readers.specs.Messages.{WireUpdate, update_of}
use Rattle.keyed.proofs.KeyedLaws.{choose}
use Rattle.packed.specs.Assignment as port
use Rattle.packed.specs.Equal.{same_assignment}
use Rattle.packed.proofs.EqualLaws.{assignment-eq}
use Rattle.packed_delta.specs.Join.{Proper}
use Rattle.intake_content.specs.Content as content
use Rattle.intake_content.specs.Content.{first_refusal, consumer_assignment, content_of}
use Rattle.keyed.proofs.EachLaws.{Each, each_append}
use Rattle.intake_content.proofs.SoundLaws.{length-map}
use Rattle.packed_queue.specs.Entries.{size_entry}
use Rattle.session.specs.Store.{min_store, min_output, max_queue, queue_end}
use Rattle.session.specs.Session as session
use Rattle.session.specs.Session.{Session, position_of, damaged}
use Rattle.session.specs.Update.{enqueue, hold, update_unregistered, update_registered, update_call}
use Rattle.session.specs.Tails.{update_content, update_valid, update_checked}
use Rattle.session.specs.Trace.{Call, update}
use Rattle.session.proofs.Model.{after}
use Rattle.session.proofs.CallLaws.{read-proper}
use Rattle.rust_magnetar.specs.Assignment.{ConsumerMismatch, StaleEpoch, IncarnationMismatch, PreBaselineBufferFull, ConsumerAssignment}
use Rattle.rust_magnetar.specs.Assignment.{ConsumerAssignment-try-from-pb}
use Rattle.rust_magnetar.specs.Session.{AssignmentDelta, AssignmentReplay, ScalableConsumerSession, Did, Run, ◌>>=◌, ◌>>◌, lift, pure, fail, get}
use Rattle.rust_magnetar.specs.Session.{change, with-buffered-updates, enforce-epoch-floor, apply-incoming, MAX-BUFFERED-ASSIGNMENT-UPDATES}
use Rattle.rust_magnetar.specs.Session.{is_none, handle-assignment-update-for}
use Rattle.rust_session.specs.Values.{as_assignment, as_floor, replays}
use Rattle.rust_session.specs.Demand.{Caller, after_update, rust_update, rust_step}
use Rattle.rust_session.proofs.ContentAgrees.{content-agrees}
use Rattle.rust_session.proofs.ReplayAgrees.{Registration, sess, apply-stale, apply-same, apply-new}
use Rattle.rust_session.proofs.OursLaws.{Ours, OursIf, either-content, fault-ours}
use Rattle.rust_session.proofs.Mirror.{rust, caller, holding, Idle, Live, Mirror, Fair, mirror-still, with_queue, mirror-same}
use Rattle.rust_session.proofs.Mirror.{refuse-fair, plain-fair, both, through, floors, contents}
use Rattle.refusal.specs.declared.Refusal.{Refusal}

-- ---- the Rust's method, from each `?` on

abbrev pushing : ScalableConsumerSession → ConsumerAssignment → Run (Option AssignmentDelta)
pushing self incoming = change (with-buffered-updates (self.buffered-updates ++ (incoming ∷ []))) >> pure None

abbrev queueing : ScalableConsumerSession → ConsumerAssignment → Run (Option AssignmentDelta)
queueing self incoming =
    cond (eqb (length self.buffered-updates) MAX-BUFFERED-ASSIGNMENT-UPDATES)
    (fail (PreBaselineBufferFull MAX-BUFFERED-ASSIGNMENT-UPDATES)) (pushing self incoming)

abbrev incoming_rest : ScalableConsumerSession → ConsumerAssignment → Run (Option AssignmentDelta)
incoming_rest self incoming =
    cond (is_none self.assignment) (enforce-epoch-floor incoming.layout-epoch >> queueing self incoming) (apply-incoming incoming)

abbrev message_rest : WireUpdate → ScalableConsumerSession → Run (Option AssignmentDelta)
message_rest u self = lift (ConsumerAssignment-try-from-pb u.assignment self.topic) >>= incoming_rest self

abbrev consumer_rest : WireUpdate → Run (Option AssignmentDelta)
consumer_rest u =
    get >>= λ self.
    cond (not (eqb u.consumer_id self.consumer-id)) (fail (ConsumerMismatch u.consumer_id self.consumer-id)) (message_rest u self)

-- ---- lists

map_snoc : {A B : Type 0} (f : A → B) (l : List A) (x : A) → map f l ++ (f x ∷ []) ≡ map f (l ++ (x ∷ []))
map_snoc f [] x = refl
map_snoc f (y ∷ l) x = ap (f y ∷◌) (map_snoc f l x)

-- a push that does not fit is refused for a reason of ours
no_room : (count : ℕ) → eqb count max_queue ≡ false → Ours (refusal.PreBaselineBufferFull count)
no_room count e = ap not e

module _ (n : Registration) (message : List ℕ) (link : ControllerIncarnation) (out : List ℕ) (s : Session) where
  abbrev call : Call
  call = update message link out

  abbrev id : ℕ
  id = s.state.consumer_id

  abbrev incarnation : ControllerIncarnation
  incarnation = s.state.incarnation

  abbrev floor : Option ℕ
  floor = s.state.epoch_floor

  -- a list of this port as the Rust's
  abbrev theirs : port.ConsumerAssignment → ConsumerAssignment
  theirs a = as_assignment s.topic a

  -- of the method's end, with those replays taken before
  abbrev Updates : List AssignmentReplay → session.Result → Did (Option AssignmentDelta) → Type 0
  Updates t x d = Fair n call s x (after_update t d.after d.result)

  -- the queue is then the queue with the push behind it
  joined : (a : port.ConsumerAssignment) → length s.queue ≡ s.state.queue_count
      → (after s (enqueue s a)).queue ≡ s.queue ++ (a ∷ [])
  joined a e =
      let m = s.state.queue_count in
      take_all (m + 1) (s.queue ++ (a ∷ [])) (omega (arith, e, length-append s.queue (a ∷ [])))

  module _ (idle : s.state.registered ≡ false) (each : Each Proper s.queue) (h : Mirror n s (caller n s None s.queue [] []))
      (a : port.ConsumerAssignment) (pa : Proper a) where
    abbrev before : ScalableConsumerSession
    before = rust n s None s.queue []

    abbrev longer : List port.ConsumerAssignment
    longer = s.queue ++ (a ∷ [])

    abbrev behind : List port.ConsumerAssignment → Session
    behind q = with_queue s (enqueue s a) q

    queued : Mirror n (behind longer) (caller n (behind longer) None longer [] [])
    queued =
        record {
          unmarked = h.unmarked;
          counted = omega (arith, h.counted, length-append s.queue (a ∷ []));
          eight = h.eight;
          state = inl (record { registered = idle; is = refl; proper = each_append Proper s.queue (a ∷ []) each (pa, tt) });
        }

    -- the Rust's session with those pushes
    abbrev waiting : List ConsumerAssignment → Caller
    waiting l = record { session = sess n id s.topic incarnation None (as_floor floor) l [] s.state.invalidated; taken = [] }

    enqueue-fair : Updates [] (enqueue s a) (pushing before (theirs a) before)
    enqueue-fair f =
        record {
          answered = refl;
          mirror =
              subst (λ l. Mirror n (after s (enqueue s a)) (waiting l)) (sym (map_snoc theirs s.queue a))
              (subst (λ q. Mirror n (behind q) (waiting (map theirs longer))) (sym (joined a h.counted)) queued);
        }

    -- 26, 28
    update-idle : Updates [] (update_content s (content.taken a)) (incoming_rest before (theirs a) before)
    unfolding update_content update_unregistered
    update-idle =
        choose (λ x. Updates [] x (incoming_rest before (theirs a) before)) s.state.registered
        (λ u. absurd (false≢true (sym idle ∙ u))) (λ u.
        floors (Updates []) a.layout_epoch floor s before _ (λ x. queueing before (theirs a))
        (λ x y p. plain-fair n call s x y (caller n s None s.queue [] []) p h) (λ e.
        both (Updates []) (eqb s.state.queue_count max_queue) (eqb (length before.buffered-updates) 1024)
        (ap (λ (m : ℕ). eqb m 1024) (sym (length-map theirs s.queue ∙ h.counted)))
        (fail (PreBaselineBufferFull 1024)) (pushing before (theirs a)) before
        (λ v. refuse-fair n call s (refusal.PreBaselineBufferFull max_queue) (PreBaselineBufferFull 1024)
        (caller n s None s.queue [] []) refl refl h)
        (λ v.
        choose (λ x. Updates [] x (pushing before (theirs a) before)) (ltb s.size (queue_end s.queue + size_entry a))
        (λ w f. absurd (true≢false (sym (no_room s.state.queue_count v) ∙ f))) (λ w. enqueue-fair))))

  module _ (live : s.state.registered ≡ true) (pl : Proper s.list) (r t : List AssignmentReplay)
      (left : t ++ r ≡ replays s.topic s.baseline s.queue (position_of s.state n.reader))
      (h : Mirror n s (caller n s (holding s) [] r t)) (a : port.ConsumerAssignment) (pa : Proper a) where
    abbrev held : ScalableConsumerSession
    held = rust n s (holding s) [] r

    abbrev stale : Bool
    stale = ltb a.layout_epoch s.list.layout_epoch

    level : same_assignment s.list a ≡ true → stale ≡ false
    level v =
        let e : s.list.layout_epoch ≡ a.layout_epoch =
        ap (λ (x : port.ConsumerAssignment). x.layout_epoch) (assignment-eq s.list a v) in
        le-ltb a.layout_epoch s.list.layout_epoch (omega arith)

    same-fair : same_assignment s.list a ≡ true
        → Updates t (record { reply = session.unchanged; next = s.state; writes = [] }) (apply-incoming (theirs a) held)
    same-fair v =
        subst (Updates t _) (sym (apply-same n id s.topic incarnation floor [] r s.state.invalidated s.list a (level v) v))
        (λ f. record { answered = refl; mirror = mirror-still n s session.unchanged (caller n s (holding s) [] r t) h })

    stale-fair : stale ≡ true
        → Updates t (session.refuse (refusal.StaleEpoch a.layout_epoch s.list.layout_epoch) s) (apply-incoming (theirs a) held)
    stale-fair w =
        subst (Updates t _) (sym (apply-stale n id s.topic incarnation floor [] r s.state.invalidated s.list a w))
        (refuse-fair n call s (refusal.StaleEpoch a.layout_epoch s.list.layout_epoch)
        (StaleEpoch a.layout_epoch s.list.layout_epoch) (caller n s (holding s) [] r t) refl refl h)

    hold-fair : same_assignment s.list a ≡ false → stale ≡ false → Updates t (hold s a) (apply-incoming (theirs a) held)
    hold-fair v w =
        subst (Updates t _) (sym (apply-new n id s.topic incarnation floor [] r s.state.invalidated s.list a w v pl pa))
        (λ f.
        record {
          answered = refl;
          mirror =
              mirror-same n s (hold s a) _ h.counted
              (record {
                unmarked = h.unmarked;
                counted = h.counted;
                eight = h.eight;
                state = inr (record { registered = live; is = refl; left = left; proper = pa });
              });
        })

    -- none, or 27
    update-live : Updates t (update_content s (content.taken a)) (incoming_rest held (theirs a) held)
    unfolding update_content update_registered
    update-live =
        choose (λ x. Updates t x (apply-incoming (theirs a) held)) s.state.registered
        (λ u.
        choose (λ x. Updates t x (apply-incoming (theirs a) held)) (same_assignment s.list a) (λ v. same-fair v) (λ v.
        choose (λ x. Updates t x (apply-incoming (theirs a) held)) stale (λ w. stale-fair w) (λ w. hold-fair v w)))
        (λ u. absurd (false≢true (sym u ∙ live)))

  module _ (o : Option ConsumerAssignment) (q : List port.ConsumerAssignment) (r t : List AssignmentReplay)
      (h : Mirror n s (caller n s o q r t))
      (agrees : (a : port.ConsumerAssignment) → Proper a
      → Updates t (update_content s (content.taken a)) (incoming_rest (rust n s o q r) (theirs a) (rust n s o q r))) where
    abbrev pushed : WireUpdate
    pushed = update_of message

    abbrev from : ScalableConsumerSession
    from = rust n s o q r

    -- 23, 24, 9 to 15
    update-valid : Updates t (update_valid s link pushed) (handle-assignment-update-for link pushed from)
    unfolding update_valid update_content content_of
    update-valid =
        through (Updates t) (not (eqb link.0 incarnation.0)) (fail (IncarnationMismatch link incarnation)) (pure (tt {0})) from
        (λ x. consumer_rest pushed)
        (λ u. refuse-fair n call s (refusal.IncarnationMismatch link incarnation) (IncarnationMismatch link incarnation)
        (caller n s o q r t) refl refl h) (λ u.
        both (Updates t) (not (eqb pushed.consumer_id id)) (not (eqb pushed.consumer_id id)) refl
        (fail (ConsumerMismatch pushed.consumer_id id)) (message_rest pushed from) from
        (λ u. refuse-fair n call s (refusal.ConsumerMismatch pushed.consumer_id id) (ConsumerMismatch pushed.consumer_id id)
        (caller n s o q r t) refl refl h) (λ u.
        contents (Updates t) s.topic (update_content s) from (incoming_rest from) (consumer_assignment pushed.assignment)
        (λ x y p. plain-fair n call s x y (caller n s o q r t) p h)
        (λ x p d f. absurd (true≢false (sym p ∙ f)))
        (agrees (consumer_assignment pushed.assignment) (read-proper pushed.assignment))
        (ConsumerAssignment-try-from-pb pushed.assignment s.topic) (first_refusal s.topic [] pushed.assignment.segments)
        (content-agrees s.topic pushed.assignment h.unmarked) (either-content s.topic [] pushed.assignment.segments)))

  module _ (c : Caller) (h : Mirror n s c) where
    -- from either state
    update-taken : Idle n s c ⊎ Live n s c
        → Fair n call s (update_valid s link (update_of message)) (rust_update c link message (Ok record {}))
    update-taken (inl d) =
        let k = subst (Mirror n s) d.is h in
        subst (λ x. Fair n call s (update_valid s link (update_of message)) (rust_update x link message (Ok record {}))) (sym d.is)
        (update-valid None s.queue [] [] k (λ a pa. update-idle d.registered d.proper k a pa))
    update-taken (inr d) =
        let k = subst (Mirror n s) d.is h in
        subst (λ x. Fair n call s (update_valid s link (update_of message)) (rust_update x link message (Ok record {}))) (sym d.is)
        (update-valid (holding s) [] c.session.replayed-updates c.taken k
        (λ a pa. update-live d.registered d.proper c.session.replayed-updates c.taken d.left k a pa))

    -- 3 to 7
    update-checked : (k : Result ⊤ Refusal) → first_fault CommandScalableTopicAssignmentUpdate message ≡ k
        → Fair n call s (update_checked s link message k) (rust_update c link message k)
    update-checked (Err x) e =
        λ f. absurd (true≢false (sym (subst OursIf e (fault-ours CommandScalableTopicAssignmentUpdate message)) ∙ f))
    update-checked (Ok _) e = update-taken h.state

    -- 1, 2, 22
    pub fair-update : Fair n call s (update_call s message link (length out)) (rust_step c call)
    unfolding update_call update_valid update_content
    fair-update =
        choose (λ x. Fair n call s x (rust_step c call)) (ltb s.size min_store) (λ u f. absurd (true≢false f)) (λ u.
        choose (λ x. Fair n call s x (rust_step c call)) (ltb (length out) min_output) (λ u f. absurd (true≢false f)) (λ u.
        choose (λ x. Fair n call s x (rust_step c call)) (damaged s) (λ u f. absurd (true≢false f)) (λ u.
        update-checked (first_fault CommandScalableTopicAssignmentUpdate message) refl)))
