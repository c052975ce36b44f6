-- A response: `handle_subscribe_response_for` answers as this port's response does, where ours do not refuse, and the sessions stay alike
-- (`fair-response`).
-- Assumes nothing.
use Rattle.std.specs.Prelude as std
use Rattle.std.specs.Prelude.{Option, Some, None, ℤ, ⊤, Ok, Err}
use Prim.Native.Nat.{ℕ}
use native.Mathlib.Omega.{arith}
use mathlib.Core.Path.{◌≡◌, refl, ap, sym, ◌∙◌, subst}
use mathlib.Core.Bool.{Bool, true, false, cond, not, true≢false}
use mathlib.Core.List.{List, [], ◌++◌, map}
use mathlib.Core.Logic.{◌⊎◌, inl, inr}
use lib.ListN.{length, take}
use lib.Seq.{take_at}
use lib.Dec.{eqb, ltb}
use Rattle.topic_types.specs.declared.ControllerIncarnation.{ControllerIncarnation}
use Rattle.refusal.specs.declared.Refusal.{Refusal}
use Rattle.refusal.specs.declared.Refusal.TheVariants as refusal
use Rattle.wire_schema.specs.declared.MessageKind.TheVariants.{CommandScalableTopicSubscribeResponse}
use Rattle.wire_schema.specs.FirstFault.{first_fault}
use Rattle.wire_readers.specs.Messages.{WireAssignment, WireResponse, response_of}
use Rattle.keyed.proofs.KeyedLaws.{choose}
use Rattle.packed.specs.Assignment as port
use Rattle.packed_delta.specs.Join.{Proper}
use Rattle.intake_content.specs.Content as content
use Rattle.intake_content.specs.Content.{first_refusal, consumer_assignment, content_of}
use Rattle.keyed.proofs.EachLaws.{Each}
use Rattle.session.specs.Store.{min_store}
use Rattle.session.specs.Session as session
use Rattle.session.specs.Session.{Session, damaged, refuse, unless, floor_fault, raise}
use Rattle.session.specs.Response.{stale_fault, last_list, replayable, register, denied, response_call}
use Rattle.session.specs.Tails.{response_assignment, response_content, response_valid, response_checked}
use Rattle.session.specs.Trace.{Call, response}
use Rattle.session.proofs.PositionLaws.{start-zero}
use Rattle.session.proofs.QueueLaws.{raise-over, stale-last, last-proper}
use Rattle.session.proofs.CallLaws.{read-proper}
use Rattle.rust_magnetar.specs.Result.{Result, ok_or}
use Rattle.rust_magnetar.specs.Assignment.{AssignmentError, IncarnationMismatch, ConsumerAssignment, ConsumerAssignment-try-from-pb}
use Rattle.rust_magnetar.specs.Session.{AssignmentReplay, ScalableConsumerSession, Did, Run, go_on, ◌>>=◌, ◌>>◌, lift, pure, fail, get, set}
use Rattle.rust_magnetar.specs.Session.{with-assignment, with-epoch-floor, with-replayed-updates, enforce-epoch-floor, map-or-max, resp-error}
use Rattle.rust_magnetar.specs.Session.{without-assignment, replay-loop, handle-subscribe-response-for}
use Rattle.rust_session.specs.Paper.{paper, text_of}
use Rattle.rust_session.specs.Values.{as_assignment, as_floor, replays}
use Rattle.rust_session.specs.Demand.{text_beside, Caller, after_response, rust_response, rust_step}
use Rattle.rust_session.proofs.ContentAgrees.{content-agrees}
use Rattle.rust_session.proofs.ReplayAgrees.{Registration, sess, raise-agrees, Replayed, loop-agrees}
use Rattle.rust_session.proofs.OursLaws.{OursIf, either-content, fault-ours}
use Rattle.rust_session.proofs.Mirror.{rust, caller, holding, Idle, Live, Mirror, Fair, with_queue, refuse-fair, plain-fair, through}
use Rattle.rust_session.proofs.Mirror.{floors, contents}

-- ---- the Rust's method, from each `?` on

abbrev staged_of : ConsumerAssignment → ScalableConsumerSession → ScalableConsumerSession
staged_of b clone =
    with-replayed-updates [] (with-epoch-floor (Some (map-or-max clone.epoch-floor b.layout-epoch)) (with-assignment (Some b) clone))

-- the staged session becomes the session; or the loop's error is handed on, and nothing has changed
abbrev commit_with : ScalableConsumerSession → ConsumerAssignment → Result (Unit {0}) AssignmentError → ScalableConsumerSession
    → Did ConsumerAssignment
commit_with self b result staged =
    let d = go_on {B = ScalableConsumerSession} self result (λ x. pure staged) in go_on d.after d.result (λ end. set end >> pure b)

abbrev commit : ℕ → ConsumerAssignment → Run ConsumerAssignment
commit request b self = let d = replay-loop request self.buffered-updates (staged_of b self) in commit_with self b d.result d.after

abbrev floor_rest : ℕ → ConsumerAssignment → Run ConsumerAssignment
floor_rest request b = enforce-epoch-floor b.layout-epoch >> commit request b

abbrev assignment_rest : ℕ → WireAssignment → Run ConsumerAssignment
assignment_rest request a = get >>= λ self. lift (ConsumerAssignment-try-from-pb a self.topic) >>= floor_rest request

abbrev reply_rest : WireResponse → Bool → Run ConsumerAssignment
reply_rest w has =
    lift (ok_or (without-assignment w (resp-error w.error)) (cond has (Some w.assignment) None)) >>= assignment_rest w.request_id

module _ (n : Registration) (message : List ℕ) (link : ControllerIncarnation) (s : Session) where
  abbrev call : Call
  call = response message link

  abbrev own : WireResponse
  own = response_of message

  abbrev id : ℕ
  id = s.state.consumer_id

  abbrev incarnation : ControllerIncarnation
  incarnation = s.state.incarnation

  abbrev floor : Option ℕ
  floor = s.state.epoch_floor

  abbrev flag : Bool
  flag = s.state.invalidated

  -- a list of this port as the Rust's
  abbrev theirs : port.ConsumerAssignment → ConsumerAssignment
  theirs a = as_assignment s.topic a

  -- of the method's end, with those replays taken before
  abbrev Responds : List AssignmentReplay → session.Result → Did ConsumerAssignment → Type 0
  Responds t x d = Fair n call s x (after_response t d.after d.result)

  -- 16 with the broker's text, or 17
  denial : (e : Option ℤ) → paper (without-assignment own (resp-error e)) ≡ denied own e
  denial (Some code) = refl
  denial None = refl

  denial-text : (e : Option ℤ) → text_of (without-assignment own (resp-error e)) ≡ text_beside call (denied own e)
  denial-text (Some code) = refl
  denial-text None = refl

  -- how many pushes are replayed
  abbrev count : ℕ
  count = cond s.state.registered 0 s.state.queue_count

  -- the Rust's session waits with the pushes q, which are the queue that is replayed, and the queue that stays
  module _ (o : Option ConsumerAssignment) (q : List port.ConsumerAssignment) (r t : List AssignmentReplay)
      (h : Mirror n s (caller n s o q r t)) (same : replayable s ≡ q) (stays : take count (s.queue ++ []) ≡ q) (counted : length q ≡ count)
      (each : Each Proper q) where
    abbrev from : ScalableConsumerSession
    from = rust n s o q r

    module _ (b : port.ConsumerAssignment) (pb : Proper b) (low : floor_fault b.layout_epoch floor ≡ None) where
      abbrev last : port.ConsumerAssignment
      last = last_list b q

      -- the Rust's session after an accepted response, with that floor
      abbrev registered : Option ℕ → ScalableConsumerSession
      registered f = sess n id s.topic incarnation (Some (theirs last)) f [] (replays s.topic b q 0) flag

      abbrev finished : ScalableConsumerSession
      finished = registered (Some last.layout_epoch)

      raised : stale_fault b q ≡ None → as_floor (raise floor last.layout_epoch) ≡ Some last.layout_epoch
      raised e = ap as_floor (raise-over floor b.layout_epoch last.layout_epoch low (stale-last b q e))

      accepted : stale_fault b q ≡ None → Mirror n (with_queue s (register s b last) q) (record { session = finished; taken = [] })
      accepted e =
          record {
            unmarked = h.unmarked;
            counted = counted;
            eight = refl;
            state =
                inr (record {
                  registered = refl;
                  is = ap (λ f. record { session = registered f; taken = [] }) (sym (raised e));
                  left = ap (replays s.topic b q) (sym (start-zero n.reader));
                  proper = last-proper b q pb each;
                });
          }

      committed : (v : Option Refusal) → stale_fault b q ≡ v → (d : Did (Unit {0})) → Replayed v finished d
          → Responds t (unless v s (register s b last)) (commit_with from (theirs b) d.result d.after)
      committed None e d p =
          subst (λ x. Responds t (register s b last) (commit_with from (theirs b) x.result x.after)) (sym p)
          (λ f.
          record {
            answered = refl;
            mirror =
                subst (λ l. Mirror n (with_queue s (register s b last) l) (record { session = finished; taken = [] })) (sym stays)
                (accepted e);
          })
      committed (Some x) e d p =
          subst (λ z. Responds t (refuse x s) (commit_with from (theirs b) z d.after)) (sym p.1)
          (plain-fair n call s x p.0 (caller n s o q r t) p.2 h)

      -- the loop starts from the floor raised to the baseline's epoch
      abbrev looped : Option ℕ → Did (Unit {0})
      looped f = replay-loop own.request_id (map theirs q) (sess n id s.topic incarnation (Some (theirs b)) f (map theirs q) [] flag)

      staged : Some (map-or-max (as_floor floor) b.layout_epoch) ≡ Some b.layout_epoch
      staged =
          raise-agrees floor b.layout_epoch ∙ ap as_floor (raise-over floor b.layout_epoch b.layout_epoch low (omega arith))

      response-replay : Responds t (unless (stale_fault b q) s (register s b last)) (commit own.request_id (theirs b) from)
      response-replay =
          subst
          (λ f. Responds t (unless (stale_fault b q) s (register s b last))
          (commit_with from (theirs b) (looped f).result (looped f).after))
          (sym staged)
          (committed (stale_fault b q) refl _ (loop-agrees n own.request_id id s.topic incarnation flag q b [] pb each))

    -- 26, 27
    response-assignment : (b : port.ConsumerAssignment) → Proper b
        → Responds t (response_content s (content.taken b)) (floor_rest own.request_id (theirs b) from)
    unfolding response_content response_assignment
    response-assignment b pb =
        subst
        (λ l. Responds t (unless (floor_fault b.layout_epoch floor) s (unless (stale_fault b l) s (register s b (last_list b l))))
        (floor_rest own.request_id (theirs b) from)) (sym same)
        (floors (Responds t) b.layout_epoch floor s from (unless (stale_fault b q) s (register s b (last_list b q)))
        (λ x. commit own.request_id (theirs b))
        (λ x y p. plain-fair n call s x y (caller n s o q r t) p h) (λ low. response-replay b pb low))

    -- 16 or 17, 9 to 15
    response-reply : (has : Bool)
        → Responds t (cond has (response_content s (content_of s.topic own.assignment)) (refuse (denied own own.error) s))
        (reply_rest own has from)
    unfolding content_of response_content
    response-reply false =
        refuse-fair n call s (denied own own.error) (without-assignment own (resp-error own.error)) (caller n s o q r t)
        (denial own.error) (denial-text own.error) h
    response-reply true =
        contents (Responds t) s.topic (response_content s) from (floor_rest own.request_id) (consumer_assignment own.assignment)
        (λ x y p. plain-fair n call s x y (caller n s o q r t) p h)
        (λ x p d f. absurd (true≢false (sym p ∙ f)))
        (response-assignment (consumer_assignment own.assignment) (read-proper own.assignment))
        (ConsumerAssignment-try-from-pb own.assignment s.topic) (first_refusal s.topic [] own.assignment.segments)
        (content-agrees s.topic own.assignment h.unmarked) (either-content s.topic [] own.assignment.segments)

    -- 23
    response-valid : Responds t (response_valid s link own) (handle-subscribe-response-for link own from)
    unfolding response_valid
    response-valid =
        through (Responds t) (not (eqb link.0 incarnation.0)) (fail (IncarnationMismatch link incarnation)) (pure (tt {0})) from
        (λ x. reply_rest own own.has_assignment)
        (λ u. refuse-fair n call s (refusal.IncarnationMismatch link incarnation) (IncarnationMismatch link incarnation)
        (caller n s o q r t) refl refl h) (λ u. response-reply own.has_assignment)

  module _ (c : Caller) (h : Mirror n s c) where
    -- from either state
    response-taken : Idle n s c ⊎ Live n s c → Fair n call s (response_valid s link (response_of message))
        (rust_response c link message (Ok record {}))
    response-taken (inl d) =
        let u = d.registered in
        subst (λ x. Fair n call s (response_valid s link (response_of message)) (rust_response x link message (Ok record {}))) (sym d.is)
        (response-valid None s.queue [] [] (subst (Mirror n s) d.is h) (rw u)
        (rw u (take_at s.queue [] s.state.queue_count h.counted)) (rw u h.counted) d.proper)
    response-taken (inr d) =
        let u = d.registered in
        subst (λ x. Fair n call s (response_valid s link (response_of message)) (rust_response x link message (Ok record {}))) (sym d.is)
        (response-valid (holding s) [] c.session.replayed-updates c.taken (subst (Mirror n s) d.is h) (rw u) (rw u) (rw u) tt)

    -- 3 to 7
    response-checked : (k : std.Result ⊤ Refusal) → first_fault CommandScalableTopicSubscribeResponse message ≡ k
        → Fair n call s (response_checked s link message k) (rust_response c link message k)
    response-checked (Err x) e =
        λ f. absurd (true≢false (sym (subst OursIf e (fault-ours CommandScalableTopicSubscribeResponse message)) ∙ f))
    response-checked (Ok _) e = response-taken h.state

    -- 1, 22
    pub fair-response : Fair n call s (response_call s message link) (rust_step c call)
    unfolding response_call response_valid response_content response_assignment
    fair-response =
        choose (λ x. Fair n call s x (rust_step c call)) (ltb s.size min_store) (λ u f. absurd (true≢false f)) (λ u.
        choose (λ x. Fair n call s x (rust_step c call)) (damaged s) (λ u f. absurd (true≢false f)) (λ u.
        response-checked (first_fault CommandScalableTopicSubscribeResponse message) refl))
