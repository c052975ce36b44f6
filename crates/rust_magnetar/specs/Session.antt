-- Public: scalable_consumer.rs: `ScalableConsumerSession`, and `AssignmentDelta` and `AssignmentReplay` that it hands
-- out.
--
-- A method with `&mut self` is a `Run`: from the session before to the session after and the result. The session is as it stands also where
-- the result is an error, so that a change made before a `?` would be seen. `x ← e` is `let x = e?;`, and a bare `e` is `e?;`. The
-- message's structs are those of the crate readers: `pb::CommandScalableTopicAssignmentUpdate` is `WireUpdate`,
-- `pb::CommandScalableTopicSubscribeResponse` is `WireResponse`.
-- Assumes nothing.
use Rattle.std.specs.Prelude.{ℕ, max, Bool, true, false, cond, not, ◌&&◌, List, [], ◌∷◌, ◌++◌, map, length, ℤ, ◌==◌, nat_le, nat_lt, Option, Some, None}
use Rattle.topic_types.specs.declared.SegmentId.{SegmentId}
use Rattle.topic_types.specs.declared.ControllerIncarnation.{ControllerIncarnation}
use Rattle.topic_types.specs.declared.ScalableConsumerType.{ScalableConsumerType}
use Rattle.wire_readers.specs.Messages.{WireAssignment, WireUpdate, WireResponse}
use Rattle.rust_magnetar.specs.Result.{Result, Ok, Err, ok_or}
use Rattle.rust_magnetar.specs.Text.{Text, text-eq}
use Rattle.rust_magnetar.specs.Collections.{filter, is-none-or}
use Rattle.rust_magnetar.specs.BTree.{Entry, entry, BTreeMap-get, BTreeMap-from-iter}
use Rattle.rust_magnetar.specs.ConsumerType.{ScalableConsumerType-eq}
use Rattle.rust_magnetar.specs.Assignment.{AssignmentError, ConsumerMismatch, StaleEpoch, IncarnationMismatch, NonAdvancingIncarnation}
use Rattle.rust_magnetar.specs.Assignment.{CrossIncarnationEpochRegression, PreBaselineBufferFull, Broker, Empty, AssignedSegment}
use Rattle.rust_magnetar.specs.Assignment.{SegmentId-cmp, AssignedSegment-eq, ConsumerAssignment, ConsumerAssignment-eq}
use Rattle.rust_magnetar.specs.Assignment.{ConsumerAssignment-try-from-pb}

pub record AssignmentDelta : Type 0 where
  pub layout-epoch : ℕ
  pub gained : List AssignedSegment
  pub lost : List SegmentId

pub record AssignmentReplay : Type 0 where
  pub assignment : ConsumerAssignment
  pub delta : AssignmentDelta

pub record ScalableConsumerSession : Type 0 where
  pub consumer-id : ℕ
  pub topic : Text
  pub subscription : Text
  pub consumer-name : Text
  pub consumer-type : ScalableConsumerType
  pub incarnation : ControllerIncarnation
  pub assignment : Option ConsumerAssignment
  pub epoch-floor : Option ℕ
  pub buffered-updates : List ConsumerAssignment
  pub replayed-updates : List AssignmentReplay
  pub invalidated : Bool

-- ---- methods

-- the session after, and the result
pub record Did (A : Type 0) : Type 0 where
  pub after : ScalableConsumerSession
  pub result : Result A AssignmentError

abbrev pub Run : Type 0 → Type 0
Run A = ScalableConsumerSession → Did A

-- `?`
abbrev pub go_on : {A B : Type 0} → ScalableConsumerSession → Result A AssignmentError → (A → Run B) → Did B
go_on self (Ok a) rest = rest a self
go_on self (Err e) rest = record { after = self; result = Err e }

infixl 10 ◌>>=◌ ◌>>◌
abbrev pub ◌>>=◌ : {A B : Type 0} → Run A → (A → Run B) → Run B
◌>>=◌ m rest self = go_on (m self).after (m self).result rest

abbrev pub ◌>>◌ : {A B : Type 0} → Run A → Run B → Run B
◌>>◌ m rest self = go_on (m self).after (m self).result (λ a. rest)

-- a result that does not touch the session; Ok(a); Err(e)
abbrev pub lift : {A : Type 0} → Result A AssignmentError → Run A
lift result self = record { after = self; result = result }

abbrev pub pure : {A : Type 0} → A → Run A
pure a self = record { after = self; result = Ok a }

abbrev pub fail : {A : Type 0} → AssignmentError → Run A
fail e self = record { after = self; result = Err e }

-- the session as it stands: `self.clone()`, or to read a field
abbrev pub get : Run ScalableConsumerSession
get self = record { after = self; result = Ok self }

-- `*self = session`
abbrev pub set : ScalableConsumerSession → Run (Unit {0})
set session self = record { after = session; result = Ok tt }

-- `self.field = value;`
abbrev pub change : (ScalableConsumerSession → ScalableConsumerSession) → Run (Unit {0})
change f self = record { after = f self; result = Ok tt }

-- a method on a local session: `self` stays as it is, and the local as it is then is handed on
abbrev pub on-local : ScalableConsumerSession → Did (Unit {0}) → Did ScalableConsumerSession
on-local self done = go_on self done.result (λ a. pure done.after)

abbrev pub on : ScalableConsumerSession → Run (Unit {0}) → Run ScalableConsumerSession
on local m self = on-local self (m local)

-- a session with the six fields that methods assign to
abbrev pub with-fields : ControllerIncarnation → Option ConsumerAssignment → Option ℕ → List ConsumerAssignment → List AssignmentReplay → Bool
    → ScalableConsumerSession → ScalableConsumerSession
with-fields incarnation assignment epoch-floor buffered-updates replayed-updates invalidated self =
    record {
      consumer-id = self.consumer-id;
      topic = self.topic;
      subscription = self.subscription;
      consumer-name = self.consumer-name;
      consumer-type = self.consumer-type;
      incarnation = incarnation;
      assignment = assignment;
      epoch-floor = epoch-floor;
      buffered-updates = buffered-updates;
      replayed-updates = replayed-updates;
      invalidated = invalidated;
    }

-- a session with one of them set
abbrev pub with-incarnation : ControllerIncarnation → ScalableConsumerSession → ScalableConsumerSession
with-incarnation value self =
    with-fields value self.assignment self.epoch-floor self.buffered-updates self.replayed-updates self.invalidated self

abbrev pub with-assignment : Option ConsumerAssignment → ScalableConsumerSession → ScalableConsumerSession
with-assignment value self =
    with-fields self.incarnation value self.epoch-floor self.buffered-updates self.replayed-updates self.invalidated self

abbrev pub with-epoch-floor : Option ℕ → ScalableConsumerSession → ScalableConsumerSession
with-epoch-floor value self =
    with-fields self.incarnation self.assignment value self.buffered-updates self.replayed-updates self.invalidated self

abbrev pub with-buffered-updates : List ConsumerAssignment → ScalableConsumerSession → ScalableConsumerSession
with-buffered-updates value self =
    with-fields self.incarnation self.assignment self.epoch-floor value self.replayed-updates self.invalidated self

abbrev pub with-replayed-updates : List AssignmentReplay → ScalableConsumerSession → ScalableConsumerSession
with-replayed-updates value self =
    with-fields self.incarnation self.assignment self.epoch-floor self.buffered-updates value self.invalidated self

abbrev pub with-invalidated : Bool → ScalableConsumerSession → ScalableConsumerSession
with-invalidated value self =
    with-fields self.incarnation self.assignment self.epoch-floor self.buffered-updates self.replayed-updates value self

-- ---- ScalableConsumerSession::new

abbrev pub new : ℕ → Text → Text → Text → ScalableConsumerType → ControllerIncarnation → ScalableConsumerSession
new consumer-id topic subscription consumer-name consumer-type incarnation =
    record {
      consumer-id = consumer-id;
      topic = topic;
      subscription = subscription;
      consumer-name = consumer-name;
      consumer-type = consumer-type;
      incarnation = incarnation;
      assignment = None;
      epoch-floor = None;
      buffered-updates = [];
      replayed-updates = [];
      invalidated = false;
    }

-- ---- matches_registration

abbrev pub matches-registration : ScalableConsumerSession → (topic subscription consumer-name : Text) → ScalableConsumerType → Bool
matches-registration self topic subscription consumer-name consumer-type =
    text-eq self.topic topic
    && (text-eq self.subscription subscription
    && (text-eq self.consumer-name consumer-name
    && ScalableConsumerType-eq self.consumer-type consumer-type))

-- ---- take_replayed_updates: core::mem::take(&mut self.replayed_updates)

abbrev pub take-replayed-updates : Run (List AssignmentReplay)
take-replayed-updates = do
  self ← get
  change (with-replayed-updates [])
  pure self.replayed-updates

-- ---- begin_incarnation

abbrev pub begin-incarnation : ControllerIncarnation → Run (Unit {0})
begin-incarnation incarnation = do
  self ← get
  cond (nat_le incarnation.0 self.incarnation.0) (fail (NonAdvancingIncarnation incarnation self.incarnation)) (do
    change (with-incarnation incarnation)
    change (with-invalidated false)
    change (with-assignment None)
    change (with-buffered-updates [])
    change (with-replayed-updates [])
    pure tt)

-- ---- invalidate_authority

abbrev pub invalidate-authority : Run (Unit {0})
invalidate-authority = do
  change (with-assignment None)
  change (with-buffered-updates [])
  change (with-replayed-updates [])
  change (with-invalidated true)
  pure tt

-- ---- enforce_epoch_floor

-- if let Some(floor) = self.epoch_floor && epoch < floor { return Err(..) } Ok(())
abbrev pub enforce : ℕ → Option ℕ → Result (Unit {0}) AssignmentError
enforce epoch None = Ok tt
enforce epoch (Some floor) = cond (nat_lt epoch floor) (Err (CrossIncarnationEpochRegression epoch floor)) (Ok tt)

abbrev pub enforce-epoch-floor : ℕ → Run (Unit {0})
enforce-epoch-floor epoch = do
  self ← get
  lift (enforce epoch self.epoch-floor)

-- ---- require_incarnation

abbrev pub require-incarnation : ControllerIncarnation → Run (Unit {0})
require-incarnation incarnation = do
  self ← get
  cond (not (incarnation.0 == self.incarnation.0)) (fail (IncarnationMismatch incarnation self.incarnation)) (pure tt)

-- ---- apply_incoming

-- if let Some(prev) = self.assignment.as_ref() && incoming.layout_epoch < prev.layout_epoch { return Err(..) }
abbrev pub refuse-stale : Option ConsumerAssignment → ConsumerAssignment → Result (Unit {0}) AssignmentError
refuse-stale None incoming = Ok tt
refuse-stale (Some prev) incoming =
    cond (nat_lt incoming.layout-epoch prev.layout-epoch) (Err (StaleEpoch incoming.layout-epoch prev.layout-epoch)) (Ok tt)

-- self.assignment.as_ref() == Some(&incoming)
abbrev pub is-some-equal : Option ConsumerAssignment → ConsumerAssignment → Bool
is-some-equal None incoming = false
is-some-equal (Some assignment) incoming = ConsumerAssignment-eq assignment incoming

-- BTreeMap<SegmentId, &AssignedSegment>
abbrev pub SegmentMap : Type 0
SegmentMap = List (Entry SegmentId AssignedSegment)

-- segments.iter().map(|s| (s.segment_id, s)).collect()
abbrev pub by-id : AssignedSegment → Entry SegmentId AssignedSegment
by-id s = entry s.segment-id s

abbrev pub segment-map : List AssignedSegment → SegmentMap
segment-map segments = BTreeMap-from-iter SegmentId-cmp (map by-id segments)

-- self.assignment.as_ref().map(|a| ..).unwrap_or_default()
abbrev pub before-map : Option ConsumerAssignment → SegmentMap
before-map None = []
before-map (Some a) = segment-map a.segments

-- map.get(&id).is_none_or(|other| *other != *s)
abbrev pub none-or-differs : SegmentMap → SegmentId → AssignedSegment → Bool
none-or-differs map id s = is-none-or (λ other. not (AssignedSegment-eq other s)) (BTreeMap-get SegmentId-cmp id map)

-- |s| before.get(&s.segment_id).is_none_or(..), |(id, before)| after.get(id).is_none_or(..), |(id, _)| *id
abbrev pub is-gained : SegmentMap → AssignedSegment → Bool
is-gained before s = none-or-differs before s.segment-id s

abbrev pub is_lost : SegmentMap → Entry SegmentId AssignedSegment → Bool
is_lost after e = none-or-differs after e.key e.value

abbrev pub key_of : Entry SegmentId AssignedSegment → SegmentId
key_of e = e.key

-- self.epoch_floor.map_or(epoch, |floor| floor.max(epoch))
abbrev pub map-or-max : Option ℕ → ℕ → ℕ
map-or-max None epoch = epoch
map-or-max (Some floor) epoch = max floor epoch

abbrev pub apply-incoming : ConsumerAssignment → Run (Option AssignmentDelta)
apply-incoming incoming = do
  self ← get
  lift (refuse-stale self.assignment incoming)
  cond (is-some-equal self.assignment incoming) (pure None) (do
    let before = before-map self.assignment
    let after = segment-map incoming.segments
    let gained = filter (is-gained before) incoming.segments
    let lost = map key_of (filter (is_lost after) before)
    let layout-epoch = incoming.layout-epoch
    change (with-assignment (Some incoming))
    change (with-epoch-floor (Some (map-or-max self.epoch-floor layout-epoch)))
    pure (Some (record { layout-epoch = layout-epoch; gained = gained; lost = lost })))

-- ---- handle_subscribe_response_for

-- the optional fields of the message: a text that is not there is read as empty, which `.unwrap_or_default()` makes of it
abbrev pub resp-assignment : WireResponse → Option WireAssignment
resp-assignment resp = cond resp.has_assignment (Some resp.assignment) None

abbrev pub resp-error : Option ℤ → Option ℤ
resp-error (Some code) = Some code
resp-error None = None

-- if let Some(code) = resp.error { return Err(Broker { code, message }) } return Err(Empty { request_id })
abbrev pub without-assignment : WireResponse → Option ℤ → AssignmentError
without-assignment resp (Some code) = Broker code resp.message
without-assignment resp None = Empty resp.request_id

-- if let Some(delta) = delta { let assignment = staged.assignment.clone().ok_or(Empty { request_id })?; staged.replayed_updates.push(..); }
abbrev pub push-replay : ℕ → Option AssignmentDelta → Run (Unit {0})
push-replay request-id None = pure tt
push-replay request-id (Some delta) = do
  staged ← get
  assignment ← lift (ok_or (Empty request-id) staged.assignment)
  change (with-replayed-updates (staged.replayed-updates ++ (record { assignment = assignment; delta = delta } ∷ [])))

-- while let Some(incoming) = staged.buffered_updates.pop_front() { .. }, over the queue as it is at the loop's start: the body adds nothing
-- to it
abbrev pub replay-loop : ℕ → List ConsumerAssignment → Run (Unit {0})
replay-loop request-id [] = pure tt
replay-loop request-id (incoming ∷ rest) = do
  change (with-buffered-updates rest)
  delta ← apply-incoming incoming
  push-replay request-id delta
  replay-loop request-id rest

abbrev pub handle-subscribe-response-for : ControllerIncarnation → WireResponse → Run ConsumerAssignment
handle-subscribe-response-for incarnation resp = do
  require-incarnation incarnation
  assignment ← lift (ok_or (without-assignment resp (resp-error resp.error)) (resp-assignment resp))
  self ← get
  baseline ← lift (ConsumerAssignment-try-from-pb assignment self.topic)
  enforce-epoch-floor baseline.layout-epoch
  clone ← get
  let staged = with-assignment (Some baseline) clone
  let staged = with-epoch-floor (Some (map-or-max staged.epoch-floor baseline.layout-epoch)) staged
  let staged = with-replayed-updates [] staged
  staged ← on staged (replay-loop resp.request_id staged.buffered-updates)
  set staged
  pure baseline

-- ---- handle_assignment_update_for

abbrev pub MAX-BUFFERED-ASSIGNMENT-UPDATES : ℕ
MAX-BUFFERED-ASSIGNMENT-UPDATES = 1024

-- self.assignment.is_none()
abbrev pub is_none : Option ConsumerAssignment → Bool
is_none None = true
is_none (Some a) = false

abbrev pub handle-assignment-update-for : ControllerIncarnation → WireUpdate → Run (Option AssignmentDelta)
handle-assignment-update-for incarnation upd = do
  require-incarnation incarnation
  self ← get
  cond (not (upd.consumer_id == self.consumer-id)) (fail (ConsumerMismatch upd.consumer_id self.consumer-id)) (do
    incoming ← lift (ConsumerAssignment-try-from-pb upd.assignment self.topic)
    cond (is_none self.assignment)
        (do
          enforce-epoch-floor incoming.layout-epoch
          cond (length self.buffered-updates == MAX-BUFFERED-ASSIGNMENT-UPDATES)
              (fail (PreBaselineBufferFull MAX-BUFFERED-ASSIGNMENT-UPDATES)) (do
                change (with-buffered-updates (self.buffered-updates ++ (incoming ∷ [])))
                pure None))
        (apply-incoming incoming))
