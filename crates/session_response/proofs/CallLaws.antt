-- The response, refusal by refusal: each law gives the result of one way through it.
--
-- In order: what a message says (`response-epoch` to `ordered-says`); a result on bytes (`refused-out`, `given_out`, `registered-out`); an
-- assignment, 26 and 27 (`assignment-below` to `assignment-on`); content (`content-refused`, `content-taken`); a message that is valid
-- (`valid-mismatch`, `valid-says`); the call (`message-bad` to `call-out`).
-- Assumes nothing.
use Rattle.std.specs.Prelude as std
use Rattle.std.specs.Prelude.{Option, None, ℤ, Some, Ok, Err}
use Prim.Native.Nat.{ℕ, ◌*◌, ◌≤◌, ◌<◌}
use mathlib.Core.Path.{◌≡◌, refl, sym, ap, ap₂, ◌∙◌}
use mathlib.Core.Bool.{Bool, true, false, not, cond}
use mathlib.Core.List.{List}
use lib.ListN.{length}
use borrow.Author.Tests.{le-ltb, lt-ltb, eq-eqb, ne_eqb, not-true, not-false}
use Rattle.topic_types.specs.declared.ControllerIncarnation.{ControllerIncarnation}
use Rattle.refusal.specs.declared.Refusal.{Refusal}
use Rattle.refusal.specs.declared.Refusal.TheVariants.{StoreTooShort, MalformedStore, IncarnationMismatch}
use Rattle.refusal.specs.declared.Refusal.TheVariants.{CrossIncarnationEpochRegression, StaleEpoch}
use Rattle.wire_schema.specs.declared.MessageKind.TheVariants.{CommandScalableTopicSubscribeResponse}
use Rattle.wire_schema.specs.FirstFault.{first_fault}
use Rattle.wire_readers.specs.declared.ResponseHead.{ResponseHead}
use Rattle.wire.specs.Fields.{Field, fields_of}
use Rattle.wire_values.specs.Values.{parts_of, present, merged_fields}
use Rattle.wire_readers.specs.Messages.{WireResponse, response_of}
use Rattle.wire_readers.specs.Messages as wire
use Rattle.wire_readers.specs.Places.{ResponseIs}
use Rattle.slice_int.specs.Put.{put}
use Rattle.packed.specs.Assignment.{ConsumerAssignment, encode_assignment, decode_assignment}
use Rattle.intake_content.specs.Content.{Content, refused, taken, content_of}
use Rattle.session.specs.declared.SessionRecord.{SessionRecord}
use Rattle.session.specs.declared.Changed.{Changed}
use Rattle.session.specs.declared.Answer.TheVariants as answer
use Rattle.session.specs.Store.{slot, queue_in, write_one}
use Rattle.session.specs.Identity.{identity_topic}
use Rattle.session.specs.Session.{view, damaged, Result, refuse, unless, floor_fault}
use Rattle.session.specs.Response.{stale_fault, last_list, replayable, denied, response_call}
use Rattle.session.specs.Tails.{response_assignment, response_content, response_valid, response_checked}
use Rattle.session.specs.Calls.{call_outcome, effect_of, response_outcome}
use Rattle.session_intake.specs.Taken.{content_in, Answers, OrderedMessageTaken}
use Rattle.session_record.specs.Floors.{below_floor, floor_value}
use Rattle.session_record.proofs.FloorLaws.{floor-below, floor-met}
use Rattle.session_response.specs.Replay.{stale_of, stale_refusal, LastIs, denied_by, content_of_response, registered_by, registered}
use Rattle.session_response.proofs.ReplayLaws.{stale-fault, replayed-is}

-- ---- what a message says

module _ (st m : List ℕ) where
  -- its epoch, by its fields
  pub response-epoch : (epoch : ℕ) → epoch ≡ (response_of m).assignment.layout_epoch
      → epoch ≡ (wire.read_assignment (merged_fields 4 (fields_of m))).layout_epoch
  unfolding response_of
  response-epoch epoch e = e

  assignment-says : (response_of m).has_assignment ≡ true → content_of_response (identity_topic (slot st 0)) (response_of m) ≡ content_in st 4 m
  unfolding response_of
  assignment-says e = rw e refl

  module _ (h : ResponseHead) (p : ResponseIs m h) (x : std.Result ℕ Refusal) (b : List ℕ) where
    pub assignment-answers : h.has_assignment ≡ true → Answers x b (content_in st 4 m)
        → Answers x b (content_of_response (identity_topic (slot st 0)) (response_of m))
    assignment-answers e a = rw (assignment-says (sym p.has-assignment ∙ e)) a

  pub denial-answers : (h : ResponseHead) → ResponseIs m h → h.has_assignment ≡ false
      → (b : List ℕ) (y : Refusal) → y ≡ denied_by h.error h.request_id
      → Answers (Err y) b (content_of_response (identity_topic (slot st 0)) (response_of m))
  denial-answers h p e b y g =
      record {
        is = rw (sym p.has-assignment ∙ e) (ap refused (sym (g ∙ ap₂ denied_by p.error p.id)));
        ready = tt;
      }

  -- one in its usual form
  pub ordered-says : (id n : ℕ) (b : List ℕ) → OrderedMessageTaken st m 4 id n b
      → content_of_response (identity_topic (slot st 0)) (response_of m) ≡ taken (decode_assignment b)
  unfolding response_of
  ordered-says id n b t = assignment-says (ap (λ (fs : List Field). present (parts_of 4 fs)) t.fields) ∙ t.answers.is

module _ (r : SessionRecord) (st : List ℕ) where
  -- ---- a result on bytes

  pub refused-out : (c : Changed) (x : Refusal) (q : Result) → c ≡ record { next = r; answer = Err x } → q ≡ refuse x (view r st)
      → (out : List ℕ) → call_outcome c.answer c.next st out ≡ effect_of q st out
  unfolding view
  refused-out c x q e f out = ap (λ (d : Changed). call_outcome d.answer d.next st out) e ∙ sym (ap (λ (p : Result). effect_of p st out) f)

  pub given_out : (c : Changed) (st' : List ℕ) (p q : Result) → q ≡ p
      → ((out : List ℕ) → call_outcome c.answer c.next st' out ≡ effect_of p st out)
      → (out : List ℕ) → call_outcome c.answer c.next st' out ≡ effect_of q st out
  given_out c st' p q e f out = f out ∙ sym (ap (λ (x : Result). effect_of x st out) e)

  -- baseline, then the last list
  pub registered-out : (next : SessionRecord) (st₁ st₂ b last : List ℕ) (epoch count size : ℕ)
      → count ≡ cond r.registered 0 r.queue_count → LastIs st b count size last → epoch ≡ (decode_assignment last).layout_epoch
      → st₁ ≡ put st (2048 * 1) (encode_assignment (decode_assignment b)) → st₂ ≡ put st₁ (2048 * 2) (encode_assignment (decode_assignment last))
      → next ≡ registered_by r epoch count
      → (out : List ℕ) → call_outcome (Ok answer.Accepted) next st₂ out ≡ effect_of (registered (view r st) (decode_assignment b)) st out
  unfolding view write_one
  registered-out next st₁ st₂ b last epoch count size e l f g h i out =
      let q : replayable (view r st) ≡ queue_in st count = replayed-is r st count e in
      let a : decode_assignment last ≡ last_list (decode_assignment b) (replayable (view r st)) =
      l.is_last ∙ ap (last_list (decode_assignment b)) (sym q) in
      rw (← a, i, f, ← e, h, g) refl

  -- ---- an assignment: 26, then 27

  -- the queue's epochs are all that is left to decide
  abbrev pub Decided : ConsumerAssignment → std.Result ℕ (ℕ × ℕ) → Type 0
  Decided a s = response_assignment (view r st) a ≡ unless (stale_refusal s) (view r st) (registered (view r st) a)

  module _ (a : ConsumerAssignment) (epoch : ℕ) (e : epoch ≡ a.layout_epoch) (t : Bool) (f : t ≡ below_floor epoch r.epoch_floor) where
    pub assignment-below : t ≡ true → (v : ℕ) → v ≡ floor_value r.epoch_floor
        → response_assignment (view r st) a ≡ refuse (CrossIncarnationEpochRegression epoch v) (view r st)
    unfolding response_assignment view
    assignment-below g v h = rw (← e, floor-below epoch r.epoch_floor (sym f ∙ g), ← h) refl

    module _ (g : t ≡ false) (n : ℕ) (i : n ≡ cond r.registered 0 r.queue_count) where
      pub queue-decides : (s : std.Result ℕ (ℕ × ℕ)) → s ≡ stale_of 6144 6144 epoch (queue_in st n) → Decided a s
      unfolding response_assignment view
      queue-decides s h =
          ap (λ (x : Option Refusal). unless x (view r st) (unless (stale_fault a (replayable (view r st))) (view r st) on)) no-fault
          ∙ ap (λ (x : Option Refusal). unless x (view r st) on) fault
        where
          on : Result
          on = registered (view r st) a

          no-fault : floor_fault a.layout_epoch r.epoch_floor ≡ None
          no-fault = ap (λ (x : ℕ). floor_fault x r.epoch_floor) (sym e) ∙ floor-met epoch r.epoch_floor (sym f ∙ g)

          fault : stale_fault a (replayable (view r st)) ≡ stale_refusal s
          fault = stale-fault 6144 6144 a (replayable (view r st)) ∙ ap stale_refusal (ap₂ (stale_of 6144 6144) (sym e) (replayed-is r st n i) ∙ sym h)

  module _ (a : ConsumerAssignment) (s : std.Result ℕ (ℕ × ℕ)) (d : Decided a s) where
    pub assignment-stale : (got prev : ℕ) → s ≡ Err (got, prev) → response_assignment (view r st) a ≡ refuse (StaleEpoch got prev) (view r st)
    assignment-stale got prev k = d ∙ ap (λ (x : std.Result ℕ (ℕ × ℕ)). unless (stale_refusal x) (view r st) (registered (view r st) a)) k

    pub assignment-on : (at : ℕ) → s ≡ Ok at → response_assignment (view r st) a ≡ registered (view r st) a
    assignment-on at k = d ∙ ap (λ (x : std.Result ℕ (ℕ × ℕ)). unless (stale_refusal x) (view r st) (registered (view r st) a)) k

  -- ---- content

  pub content-refused : (q : Content) (x : Refusal) → q ≡ refused x → response_content (view r st) q ≡ refuse x (view r st)
  unfolding response_content
  content-refused q x e = rw e refl

  pub content-taken : (q : Content) (a : ConsumerAssignment) → q ≡ taken a
      → response_content (view r st) q ≡ response_assignment (view r st) a
  unfolding response_content
  content-taken q a e = rw e refl

  -- ---- a message that is valid: 23, then 16 or 17 or what its assignment comes to

  module _ (w : WireResponse) (i : ControllerIncarnation) where
    pub valid-mismatch : (i.0 ≡ r.incarnation.0 → ⊥) → response_valid (view r st) i w ≡ refuse (IncarnationMismatch i r.incarnation) (view r st)
    unfolding response_valid view
    valid-mismatch f = rw (ne_eqb i.0 r.incarnation.0 f) refl

    pub valid-says : i.0 ≡ r.incarnation.0
        → response_valid (view r st) i w ≡ response_content (view r st) (content_of_response (identity_topic (slot st 0)) w)
    unfolding response_valid response_content view
    valid-says e = rw (eq-eqb i.0 r.incarnation.0 e) (go w.has_assignment w.error)
      where
        go : (t : Bool) (c : Option ℤ)
            → cond t (response_content (view r st) (content_of (identity_topic (slot st 0)) w.assignment)) (refuse (denied w c) (view r st))
            ≡ response_content (view r st) (cond t (content_of (identity_topic (slot st 0)) w.assignment) (refused (denied_by c w.request_id)))
        go true c = refl
        go false (Some code) = refl
        go false None = refl

  -- ---- the call: 1, 22, 3 to 7

  module _ (m : List ℕ) (i : ControllerIncarnation) where
    -- what the scan leaves to say
    abbrev pub Checks : Result → Type 0
    Checks q = response_checked (view r st) i m (first_fault CommandScalableTopicSubscribeResponse m) ≡ q

    pub message-bad : (z : Refusal) → first_fault CommandScalableTopicSubscribeResponse m ≡ Err z → Checks (refuse z (view r st))
    message-bad z e = ap (response_checked (view r st) i m) e

    pub message-valid : first_fault CommandScalableTopicSubscribeResponse m ≡ Ok record {}
        → Checks (response_valid (view r st) i (response_of m))
    message-valid e = ap (response_checked (view r st) i m) e

    pub call-short : length st < 6144 → response_call (view r st) m i ≡ refuse StoreTooShort (view r st)
    unfolding response_call view
    call-short h = rw (lt-ltb (length st) 6144 h) refl

    module _ (h : 6144 ≤ length st) (x : Bool) (s : x ≡ not (damaged (view r st))) where
      pub call-damaged : not x ≡ true → response_call (view r st) m i ≡ refuse MalformedStore (view r st)
      unfolding response_call view
      call-damaged f = rw (le-ltb (length st) 6144 h, not-false (damaged (view r st)) (sym s ∙ not-true x f)) refl

      module _ (f : not x ≡ false) where
        pub undamaged : damaged (view r st) ≡ false
        undamaged = not-true (damaged (view r st)) (sym s ∙ not-false x f)

        pub call-sound : response_call (view r st) m i ≡ response_checked (view r st) i m (first_fault CommandScalableTopicSubscribeResponse m)
        unfolding response_call view response_valid response_content content_of response_assignment
        call-sound = rw (le-ltb (length st) 6144 h, undamaged) refl

  -- as the call on bytes
  pub call-out : (c : Changed) (st' m : List ℕ) (i : ControllerIncarnation)
      → ((out : List ℕ) → call_outcome c.answer c.next st' out ≡ effect_of (response_call (view r st) m i) st out)
      → (out : List ℕ) → call_outcome c.answer c.next st' out ≡ response_outcome r st m i out
  unfolding response_outcome
  call-out c st' m i f = f
