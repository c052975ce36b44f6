-- What this port's session and the Rust's have in common between calls, and the same test on both sides of a call.
--
-- The session here is the one in values (crate session, proofs/Model). In order: what it shows (`shown_in`); the relation (`Mirror`); what
-- is to be shown of a call's result (`Agrees`, and `Fair` where ours do not refuse); refusals (`refuse-fair`, `plain-fair`); tests that both
-- sides make (`both`, `through`, `floors`, `contents`).
-- Assumes nothing.
use Rattle.std.specs.Prelude.{option_map, Option, Some, None}
use Prim.Native.Nat.{ℕ}
use mathlib.Core.Path.{◌≡◌, refl, ap, ap₂, sym, ◌∙◌, subst}
use mathlib.Core.Bool.{Bool, true, false, cond, false≢true, true≢false}
use mathlib.Core.List.{List, [], ◌++◌, map}
use mathlib.Core.Logic.{◌⊎◌, inl, inr}
use lib.ListN.{length, get_or}
use lib.Seq.{take_at}
use lib.Dec.{eqb, ltb, leb}
use Rattle.refusal.specs.declared.Refusal.{Refusal}
use Rattle.refusal.specs.declared.Refusal.TheVariants as refusal
use Rattle.refusal.specs.Refusals.{number_of}
use Rattle.keyed.proofs.KeyedLaws.{choose}
use Rattle.packed.specs.Assignment as port
use Rattle.packed.specs.Assignment.{slot_size, size_assignment}
use Rattle.packed_delta.specs.Join.{Proper}
use Rattle.intake_content.specs.Content as content
use Rattle.intake_content.specs.Content.{Content, content_by}
use Rattle.keyed.proofs.EachLaws.{Each}
use Rattle.session.specs.Session as session
use Rattle.session.specs.Session.{Session, CallAnswer, position_of, refuse, unless, floor_fault}
use Rattle.session.specs.Trace.{Call, update, response, drain, begin, invalidate}
use Rattle.session.specs.Observers.{is_response}
use Rattle.session.proofs.Model.{pushes, after, held_in}
use Rattle.rust_magnetar.specs.Result.{Result, Ok, Err, map-err}
use Rattle.rust_magnetar.specs.Text.{Text}
use Rattle.rust_magnetar.specs.Assignment.{AssignmentError, ConsumerMismatch, StaleEpoch, IncarnationMismatch, NonAdvancingIncarnation}
use Rattle.rust_magnetar.specs.Assignment.{CrossIncarnationEpochRegression, PreBaselineBufferFull, DuplicateSegment, InvalidRange}
use Rattle.rust_magnetar.specs.Assignment.{InvalidBucketRange, OverlappingBucketRanges, AttachmentMismatch, SegmentTopic, Broker, Empty}
use Rattle.rust_magnetar.specs.Assignment.{ConsumerAssignment}
use Rattle.rust_magnetar.specs.Session.{AssignmentReplay, ScalableConsumerSession, Did, Run, go_on, enforce}
use Rattle.rust_names.specs.Agree.{is_marked}
use Rattle.rust_session.specs.Paper.{paper, text_of}
use Rattle.rust_session.specs.Values.{as_assignment, as_delta, as_replay, as_floor, replays}
use Rattle.rust_session.specs.Demand.{Answered, refuses, baseline, done, no_change, delta, replay, Shown, text_beside, Caller}
use Rattle.rust_session.specs.Demand.{Turn, refusing, ours}
use Rattle.rust_session.proofs.Verdicts.{verdict, ok-err, Agreed}
use Rattle.rust_session.proofs.ReplayAgrees.{Registration, sess, Plain}
use Rattle.rust_session.proofs.OursLaws.{Ours, Theirs, OursOrTheirs}

-- ---- what a session in values shows, behind a call with that reply

abbrev pub answered_in : Call → CallAnswer → Session → Answered
answered_in c (session.refused x) s = refuses x (text_beside c x)
answered_in c session.accepted s = cond (is_response c) (baseline (as_assignment s.topic s.baseline)) done
answered_in c session.unchanged s = no_change
answered_in c (session.changed d) s = delta (as_delta s.topic d)
answered_in c (session.replayed index place d) s = replay (as_replay s.topic (get_or s.queue index s.baseline) d)

abbrev pub shown_in : (reader : ℕ) → Call → CallAnswer → Session → Shown
shown_in reader c reply s =
    record {
      answered = answered_in c reply s;
      assignment = option_map (as_assignment s.topic) (held_in s);
      epoch-floor = as_floor s.state.epoch_floor;
      incarnation = s.state.incarnation;
      registered = s.state.registered;
      invalidated = s.state.invalidated;
      waiting = cond s.state.registered [] (map (as_assignment s.topic) s.queue);
      undrained = cond s.state.registered (replays s.topic s.baseline s.queue (position_of s.state reader)) [];
    }

abbrev pub ours_in : CallAnswer → Bool
ours_in (session.refused x) = ours x
ours_in session.accepted = false
ours_in session.unchanged = false
ours_in (session.changed d) = false
ours_in (session.replayed index place d) = false

-- ---- the Rust's session beside it

-- with that assignment, those pushes and those replays
abbrev pub rust : Registration → Session → Option ConsumerAssignment → List port.ConsumerAssignment → List AssignmentReplay
    → ScalableConsumerSession
rust n s o q r =
    sess n s.state.consumer_id s.topic s.state.incarnation o (as_floor s.state.epoch_floor)
    (map (as_assignment s.topic) q) r s.state.invalidated

abbrev pub caller : Registration → Session → Option ConsumerAssignment → List port.ConsumerAssignment → List AssignmentReplay
    → List AssignmentReplay → Caller
caller n s o q r t = record { session = rust n s o q r; taken = t }

abbrev pub holding : Session → Option ConsumerAssignment
holding s = Some (as_assignment s.topic s.list)

-- unregistered: the queue waits, and nothing is left to be drained
pub record Idle (n : Registration) (s : Session) (c : Caller) : Type 0 where
  pub registered : s.state.registered ≡ false
  pub is : c ≡ caller n s None s.queue [] []
  pub proper : Each Proper s.queue

-- registered: the list is held, no push waits, and what the caller has not handed on is what is left for the reader to drain
pub record Live (n : Registration) (s : Session) (c : Caller) : Type 0 where
  pub registered : s.state.registered ≡ true
  pub is : c ≡ caller n s (holding s) [] c.session.replayed-updates c.taken
  pub left : c.taken ++ c.session.replayed-updates ≡ replays s.topic s.baseline s.queue (position_of s.state n.reader)
  pub proper : Proper s.list

pub record Mirror (n : Registration) (s : Session) (c : Caller) : Type 0 where
  -- the Rust is compared on the parent
  pub unmarked : is_marked s.topic ≡ false
  pub counted : length s.queue ≡ s.state.queue_count
  pub eight : length s.state.drain_positions ≡ 8
  pub state : Idle n s c ⊎ Live n s c

-- ---- of a call's result

pub record Agrees (n : Registration) (c : Call) (s : Session) (x : session.Result) (y : Turn) : Type 0 where
  pub answered : answered_in c x.reply (after s x) ≡ y.answered
  pub mirror : Mirror n (after s x) y.next

abbrev pub Fair : Registration → Call → Session → session.Result → Turn → Type 0
Fair n c s x y = ours_in x.reply ≡ false → Agrees n c s x y

-- a result that writes no slot and keeps the record leaves the session as it is
still : (s : Session) (reply : CallAnswer) → length s.queue ≡ s.state.queue_count
    → after s (record { reply = reply; next = s.state; writes = [] }) ≡ s
still s reply e = λ i.
    record {
      state = s.state;
      size = s.size;
      sound = s.sound;
      topic = s.topic;
      baseline = s.baseline;
      list = s.list;
      queue = take_at s.queue [] s.state.queue_count e i;
    }

pub mirror-still : (n : Registration) (s : Session) (reply : CallAnswer) (c : Caller) → Mirror n s c
    → Mirror n (after s (record { reply = reply; next = s.state; writes = [] })) c
mirror-still n s reply c m = subst (λ z. Mirror n z c) (sym (still s reply m.counted)) m

-- the session behind a result, with that queue
abbrev pub with_queue : Session → session.Result → List port.ConsumerAssignment → Session
with_queue s x queue =
    record {
      state = x.next;
      size = s.size;
      sound = s.sound;
      topic = s.topic;
      baseline = (after s x).baseline;
      list = (after s x).list;
      queue = queue;
    }

-- a result that keeps the queue
pub mirror-same : (n : Registration) (s : Session) (x : session.Result) (c : Caller) → length s.queue ≡ x.next.queue_count
    → Mirror n (with_queue s x s.queue) c → Mirror n (after s x) c
mirror-same n s x c e m =
    subst (λ q. Mirror n (with_queue s x q) c) (sym (take_at s.queue (pushes x.writes) x.next.queue_count e)) m

pub agrees-same : (n : Registration) (c : Call) (s : Session) (x : session.Result) (y : Turn) → length s.queue ≡ x.next.queue_count
    → answered_in c x.reply (with_queue s x s.queue) ≡ y.answered → Mirror n (with_queue s x s.queue) y.next → Agrees n c s x y
agrees-same n c s x y e t m =
    record {
      answered = ap (λ q. answered_in c x.reply (with_queue s x q)) (take_at s.queue (pushes x.writes) x.next.queue_count e) ∙ t;
      mirror = mirror-same n s x y.next e m;
    }

-- ---- refusals

pub refuse-fair : (n : Registration) (c : Call) (s : Session) (x : Refusal) (e : AssignmentError) (q : Caller)
    → paper e ≡ x → text_of e ≡ text_beside c x → Mirror n s q → Fair n c s (refuse x s) (refusing e q.session q.taken)
refuse-fair n c s x e q p t m = λ o.
    record { answered = ap₂ refuses (sym p) (sym t); mirror = mirror-still n s (session.refused x) q m }

no_text : (c : Call) (x : Refusal) → eqb (number_of x) 16 ≡ false → text_beside c x ≡ []
no_text (update message incarnation out) x h = refl
no_text (response message incarnation) x h = rw h
no_text (drain by out) x h = refl
no_text (begin incarnation) x h = refl
no_text invalidate x h = refl

pub plain-fair : (n : Registration) (c : Call) (s : Session) (x : Refusal) (e : AssignmentError) (q : Caller) → Plain e x
    → Mirror n s q → Fair n c s (refuse x s) (refusing e q.session q.taken)
plain-fair n c s x e q p m = refuse-fair n c s x e q p.is (p.text ∙ sym (no_text c x p.number)) m

-- only the broker's error has a text
no-error-text : (e : AssignmentError) → eqb (number_of (paper e)) 16 ≡ false → text_of e ≡ []
no-error-text (ConsumerMismatch got expected) h = refl
no-error-text (StaleEpoch got prev) h = refl
no-error-text (IncarnationMismatch got expected) h = refl
no-error-text (NonAdvancingIncarnation got prev) h = refl
no-error-text (CrossIncarnationEpochRegression got floor) h = refl
no-error-text (PreBaselineBufferFull max) h = refl
no-error-text (DuplicateSegment id) h = refl
no-error-text (InvalidRange id source) h = refl
no-error-text (InvalidBucketRange id index start end) h = refl
no-error-text (OverlappingBucketRanges id) h = refl
no-error-text (AttachmentMismatch id expected got) h = refl
no-error-text (SegmentTopic source) h = refl
no-error-text (Broker code message) h = absurd (true≢false h)
no-error-text (Empty request) h = refl

plain_of : (e : AssignmentError) (x : Refusal) → paper e ≡ x → Theirs (Some x) → Plain e x
plain_of e x p t =
    record { is = p; text = no-error-text e (subst (λ y. eqb (number_of y) 16 ≡ false) (sym p) t.1); number = t.1 }

-- ---- the same test on both sides

pub both : {B : Type 0} (P : session.Result → Did B → Type 0) (b c : Bool) → b ≡ c
    → {p q : session.Result} (x y : Run B) (s : ScalableConsumerSession)
    → (b ≡ true → P p (x s)) → (b ≡ false → P q (y s)) → P (cond b p q) ((cond c x y) s)
both P true true e x y s f g = f refl
both P true false e x y s f g = absurd (true≢false e)
both P false true e x y s f g = absurd (false≢true e)
both P false false e x y s f g = g refl

-- before a `?`
pub through : {A B : Type 0} (P : session.Result → Did B → Type 0) (b : Bool) {p q : session.Result} (x y : Run A)
    (s : ScalableConsumerSession) (k : A → Run B)
    → (b ≡ true → P p (go_on (x s).after (x s).result k)) → (b ≡ false → P q (go_on (y s).after (y s).result k))
    → P (cond b p q) (go_on ((cond b x y) s).after ((cond b x y) s).result k)
through P true x y s k f g = f refl
through P false x y s k f g = g refl

-- the floor
pub floors : {B : Type 0} (P : session.Result → Did B → Type 0) (epoch : ℕ) (f : Option ℕ) (s : Session) (S : ScalableConsumerSession)
    (p : session.Result) (k : Unit {0} → Run B)
    → ((x : Refusal) (y : AssignmentError) → Plain y x → P (refuse x s) (record { after = S; result = Err y }))
    → (floor_fault epoch f ≡ None → P p (k tt S)) → P (unless (floor_fault epoch f) s p) (go_on S (enforce epoch (as_floor f)) k)
floors P epoch None s S p k h g = g refl
floors P epoch (Some f) s S p k h g = go (ltb epoch f) g
  where
    fault : Refusal
    fault = refusal.CrossIncarnationEpochRegression epoch f

    go : (b : Bool) → (cond b (Some fault) None ≡ None → P p (k tt S))
        → P (unless (cond b (Some fault) None) s p) (go_on S (cond b (Err (CrossIncarnationEpochRegression epoch f)) (Ok (tt {0}))) k)
    go true g = h fault (CrossIncarnationEpochRegression epoch f) (record { is = refl; text = refl; number = refl })
    go false g = g refl

-- the assignment of the message; what this port refuses for a reason of its own, the Rust may answer as it likes
module _ {B : Type 0} (P : session.Result → Did B → Type 0) (t : Text) (answer : Content → session.Result)
    (S : ScalableConsumerSession) (k : ConsumerAssignment → Run B) (a : port.ConsumerAssignment)
    (bad : (x : Refusal) (y : AssignmentError) → Plain y x → P (answer (content.refused x)) (record { after = S; result = Err y }))
    (own : (x : Refusal) → Ours x → (d : Did B) → P (answer (content.refused x)) d)
    (agrees : P (answer (content.taken a)) (k (as_assignment t a) S)) where
  refused-same : (r : Refusal) (x : AssignmentError) → paper x ≡ r → OursOrTheirs (Some r)
      → P (answer (content.refused r)) (record { after = S; result = Err x })
  refused-same r x p (inl o) = own r o (record { after = S; result = Err x })
  refused-same r x p (inr u) = bad r x (plain_of x r p u)

  contents-same : (m : Result ConsumerAssignment AssignmentError) (v : Option Refusal) → map-err paper m ≡ verdict v (as_assignment t a)
      → OursOrTheirs v → P (answer (content_by v a)) (go_on S m k)
  contents-same (Ok x) None e u =
      let p : x ≡ as_assignment t a = cc in
      choose (λ c. P (answer c) (k x S)) (leb (size_assignment a) slot_size)
      (λ u. subst (λ y. P (answer (content.taken a)) (k y S)) (sym p) agrees) (λ u. own refusal.AssignmentTooLong refl (k x S))
  contents-same (Ok x) (Some r) e u = ok-err e
  contents-same (Err x) None e u = ok-err (sym e)
  contents-same (Err x) (Some r) e u = let p : paper x ≡ r = cc in refused-same r x p u

  pub contents : (m : Result ConsumerAssignment AssignmentError) (v : Option Refusal)
      → Agreed Ours paper m v (as_assignment t a) → OursOrTheirs v → P (answer (content_by v a)) (go_on S m k)
  contents m v (Agreed.agree e) u = contents-same m v e u
  contents m v (Agreed.mine x p q) u = subst (λ o. P (answer (content_by o a)) (go_on S m k)) (sym p) (own x q (go_on S m k))
