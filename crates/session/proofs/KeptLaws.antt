-- Each call with no drain owed keeps what holds for a reader: update, response, begin and invalidate; `keep-call` is any of the five.
-- Assumes nothing.
use Rattle.std.specs.Prelude.{Some, None, Option}
use Prim.Native.Nat.{ℕ, ◌+◌, ◌<◌}
use native.Mathlib.Omega.{arith}
use mathlib.Core.Path.{◌≡◌, refl, ap, sym, ◌∙◌, subst}
use mathlib.Core.Bool.{Bool, true, false, cond, false≢true}
use mathlib.Core.List.{List, [], ◌∷◌, ◌++◌}
use mathlib.Core.Logic.{inl, inr}
use lib.Dec.{ltb}
use lib.ListN.{length, take, length-append}
use lib.Seq.{take_at, take_all}
use borrow.Author.Tests.{ltb-false}
use Rattle.topic_types.specs.declared.ControllerIncarnation.{ControllerIncarnation}
use Rattle.wire_readers.specs.Messages.{update_of, response_of}
use Rattle.keyed.specs.Keyed.{or_else}
use Rattle.keyed.proofs.KeyedLaws.{choose}
use Rattle.packed.specs.Assignment.{ConsumerAssignment}
use Rattle.packed.specs.Equal.{same_assignment}
use Rattle.packed.proofs.EqualLaws.{assignment-eq}
use Rattle.packed_delta.specs.Join.{Proper}
use Rattle.keyed.proofs.EachLaws.{Each, each_append}
use Rattle.session.specs.Session.{Session, accepted, Result, floor_fault, raise}
use Rattle.session.specs.Update.{enqueue, hold}
use Rattle.session.specs.Response.{stale_fault, last_list, replayable, register}
use Rattle.session.specs.Link.{unregistered}
use Rattle.session.specs.Trace.{Call, update, response, drain, begin, invalidate}
use Rattle.session.specs.Observers.{pushed_in, own_in, Sender, send_update, Seen}
use Rattle.session.proofs.Model.{begin_call, result_of, after}
use Rattle.session.proofs.PositionLaws.{start-zero}
use Rattle.session.proofs.QueueLaws.{raise-over, raise-next, last_in, last_in-append, last_in-or, last-proper, stale-last}
use Rattle.session.proofs.QueueLaws.{before}
use Rattle.session.proofs.CallLaws.{read-proper, unchanged_result, update-cases, response-cases}
use Rattle.session.proofs.HoldLaws.{Idle, Held, Uploaded, Settled, Invariant, Kept}
use Rattle.session.proofs.HoldLaws.{invariant-same, invariant-still, uploaded-delta}
use Rattle.session.proofs.DrainLaws.{keep-drain}

-- ---- update

send-pending : (a : ConsumerAssignment) (x : Sender) → x.list ≡ None → send_update a x ≡ record { list = None; pending = Some a }
send-pending a x e = simp e

send-list : (a l : ConsumerAssignment) (x : Sender) → x.list ≡ Some l → send_update a x ≡ record { list = Some a; pending = x.pending }
send-list a l x e = simp e

module _ (reader : ℕ) (message : List ℕ) (incarnation : ControllerIncarnation) (out : List ℕ) (s : Session) (o : Seen) where
  abbrev pushed : ConsumerAssignment
  pushed = pushed_in message

  abbrev KeptUpdate : Result → Type 0
  KeptUpdate = Kept reader s (update message incarnation out) o

  proper-pushed : Proper pushed
  proper-pushed = read-proper (update_of message).assignment

  -- the queue is then the queue with the push behind it
  joined-queue : length s.queue ≡ s.state.queue_count → (after s (enqueue s pushed)).queue ≡ s.queue ++ (pushed ∷ [])
  joined-queue e =
      let n = s.state.queue_count in
      take_all (n + 1) (s.queue ++ (pushed ∷ [])) (omega (arith, e, length-append s.queue (pushed ∷ [])))

  keep-enqueue : Idle s o → KeptUpdate (enqueue s pushed)
  keep-enqueue h =
      let q = joined-queue h.counted in
      let p = send-pending pushed o.sender h.list in
      inl (record {
        registered = h.registered;
        list = ap (λ (x : Sender). x.list) p;
        pending = ap (λ (x : Sender). x.pending) p ∙ sym (last_in-append s.queue pushed) ∙ ap last_in (sym q);
        uploader = h.uploader;
        highest = h.highest;
        proper = subst (Each Proper) (sym q) (each_append Proper s.queue (pushed ∷ []) h.proper (proper-pushed, tt));
        counted = ap length q ∙ length-append s.queue (pushed ∷ []) ∙ ap (λ n. n + 1) h.counted;
      })

  module _ (h : Settled reader s o) where
    -- the sender's list is then the push
    held-pushed : {floor : Option ℕ} → floor ≡ Some pushed.layout_epoch
        → Held s.state.registered floor pushed (send_update pushed o.sender)
    held-pushed f =
        let p = send-list pushed s.list o.sender h.held.sent in
        record {
          live = h.held.live;
          raised = f;
          sent = ap (λ (x : Sender). x.list) p;
          pending = ap (λ (x : Sender). x.pending) p ∙ h.held.pending;
          proper = proper-pushed;
        }

    keep_same : same_assignment s.list pushed ≡ true → KeptUpdate (unchanged_result s)
    keep_same t =
        let e : pushed ≡ s.list = sym (assignment-eq s.list pushed t) in
        invariant-same reader false s (unchanged_result s) _ h.counted
        (inr (record {
          held =
              subst (λ l. Held s.state.registered s.state.epoch_floor l (send_update pushed o.sender)) e
              (held-pushed (h.held.raised ∙ ap (λ (l : ConsumerAssignment). Some l.layout_epoch) (sym e)));
          uploaded = h.uploaded;
          position = h.position;
          eight = h.eight;
          counted = h.counted;
        }))

    keep-hold : ltb pushed.layout_epoch s.list.layout_epoch ≡ false → KeptUpdate (hold s pushed)
    keep-hold t =
        let rises = ltb-false pushed.layout_epoch s.list.layout_epoch t in
        invariant-same reader false s (hold s pushed) _ h.counted
        (inr (record {
          held =
              held-pushed
              (ap (λ f. raise f pushed.layout_epoch) h.held.raised ∙ raise-next s.list.layout_epoch pushed.layout_epoch rises);
          uploaded = uploaded-delta h.uploaded h.held.proper proper-pushed rises;
          position = h.position;
          eight = h.eight;
          counted = h.counted;
        }))

  keep_update : Invariant reader false s o → KeptUpdate (result_of s (update message incarnation out))
  keep_update (inl h) =
      update-cases s KeptUpdate (λ x. invariant-still reader false s o (inl h)) message incarnation (length out)
      (λ t u. absurd (false≢true (sym h.registered ∙ t))) (λ t u. absurd (false≢true (sym h.registered ∙ t))) (λ t. keep-enqueue h)
  keep_update (inr h) =
      update-cases s KeptUpdate (λ x. invariant-still reader false s o (inr h)) message incarnation (length out)
      (λ t u. keep_same h u) (λ t u. keep-hold h u) (λ t. absurd (false≢true (sym t ∙ h.held.live)))

-- ---- response

-- what holds of the queue that is replayed, and that it is the queue behind an accepted response
record Ready (s : Session) (o : Seen) : Type 0 where
  pending : o.sender.pending ≡ last_in (replayable s)
  proper : Each Proper (replayable s)
  highest : s.state.epoch_floor ≡ o.highest
  counted : length (replayable s) ≡ cond s.state.registered 0 s.state.queue_count
  left : take (cond s.state.registered 0 s.state.queue_count) (s.queue ++ []) ≡ replayable s

ready : (reader : ℕ) (s : Session) (o : Seen) → Invariant reader false s o → Ready s o
ready reader s o (inl h) =
    let e = h.registered in
    record {
      pending = rw e h.pending;
      proper = rw e h.proper;
      highest = h.highest;
      counted = rw e h.counted;
      left = rw e (take_at s.queue [] s.state.queue_count h.counted);
    }
ready reader s o (inr h) =
    let e = h.held.live in
    record {
      pending = rw e h.held.pending;
      proper = rw e tt;
      highest = h.held.raised ∙ sym h.uploaded.top;
      counted = rw e refl;
      left = rw e refl;
    }

module _ (reader : ℕ) (message : List ℕ) (incarnation : ControllerIncarnation) (s : Session) (o : Seen) where
  abbrev own : ConsumerAssignment
  own = own_in message

  abbrev KeptResponse : Result → Type 0
  KeptResponse = Kept reader s (response message incarnation) o

  keep-register : Invariant reader false s o → floor_fault own.layout_epoch s.state.epoch_floor ≡ None → stale_fault own (replayable s) ≡ None
      → KeptResponse (register s own (last_list own (replayable s)))
  keep-register g t u =
      let r = ready reader s o g in
      let p : Proper own = read-proper (response_of message).assignment in
      let f = s.state.epoch_floor in
      record {
        held =
            record {
              live = refl;
              raised = raise-over f own.layout_epoch (last_list own (replayable s)).layout_epoch t (stale-last own (replayable s) u);
              sent = ap (λ x. or_else x (Some own)) r.pending ∙ last_in-or (replayable s) own;
              pending = refl;
              proper = last-proper own (replayable s) p r.proper;
            };
        uploaded =
            subst
            (λ n.
            Uploaded own (before own (take (cond s.state.registered 0 s.state.queue_count) (s.queue ++ [])) n) (Some own) (Some own) []
            (raise o.highest own.layout_epoch))
            (sym (start-zero reader))
            (record {
              has = refl;
              based = refl;
              turned = refl;
              proper = tt;
              proper-baseline = p;
              top =
                  ap (λ x. raise x own.layout_epoch) (sym r.highest)
                  ∙ raise-over f own.layout_epoch own.layout_epoch t (omega arith);
            });
        eight = refl;
        last = ap (last_list own) (sym r.left);
        fresh = ap (stale_fault own) r.left ∙ u;
        proper = subst (Each Proper) (sym r.left) r.proper;
        counted = ap length r.left ∙ r.counted;
      }

  keep-response : Invariant reader false s o → KeptResponse (result_of s (response message incarnation))
  keep-response g = response-cases s KeptResponse (λ x. invariant-still reader false s o g) message incarnation (λ t u. keep-register g t u)

-- ---- begin, invalidate

-- unregistered, with the floor kept
abbrev leaving : Session → ControllerIncarnation → Bool → Result
leaving s incarnation invalidated = record { reply = accepted; next = unregistered s.state incarnation invalidated; writes = [] }

keep-leaving : (reader : ℕ) (incarnation : ControllerIncarnation) (invalidated : Bool) (s : Session) (o : Seen) → Invariant reader false s o
    → Kept reader s invalidate o (leaving s incarnation invalidated)
keep-leaving reader incarnation invalidated s o g =
    inl (record {
      registered = refl;
      list = refl;
      pending = refl;
      uploader = refl;
      highest = (ready reader s o g).highest;
      proper = tt;
      counted = refl;
    })

keep-begin : (reader : ℕ) (incarnation : ControllerIncarnation) (s : Session) (o : Seen) → Invariant reader false s o
    → Kept reader s (begin incarnation) o (begin_call s incarnation)
keep-begin reader incarnation s o g =
    choose (Kept reader s (begin incarnation) o) (ltb s.state.incarnation.0 incarnation.0)
    (λ t. keep-leaving reader incarnation false s o g) (λ t. invariant-still reader false s o g)

pub keep-call : (reader : ℕ) → reader < 8 → (c : Call) (s : Session) (o : Seen) → Invariant reader false s o → Kept reader s c o (result_of s c)
keep-call reader low (update message incarnation out) s o g = keep_update reader message incarnation out s o g
keep-call reader low (response message incarnation) s o g = keep-response reader message incarnation s o g
keep-call reader low (drain by out) s o g = keep-drain reader low by out s o g
keep-call reader low (begin incarnation) s o g = keep-begin reader incarnation s o g
keep-call reader low invalidate s o g = keep-leaving reader s.state.incarnation true s o g
