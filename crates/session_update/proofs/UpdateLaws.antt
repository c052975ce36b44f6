-- The cases of an update, one law for each answer of the functions.
--
-- In order: epochs and the list where they lie (`buffer-epoch` to `list-starts`); a store that is not damaged (`identity-valid` to
-- `list-valid`); an unregistered session (`epoch-low`, `queue-full`, `no_room`, `queue-joined`); a registered one (`list_same`, `epoch-stale`,
-- `list_held`); what the assignment comes to (`content-refuses` to `content-joins`); link and consumer
-- (`address-link` to `let-in`); the message (`update-epoch` to `message-valid`); the call (`store-short` to `call-sound`).
-- Assumes nothing.
use Rattle.std.specs.Prelude as std
use Rattle.std.specs.Prelude.{⊤, Option, Ok, Err}
use Prim.Native.Nat.{ℕ, ◌+◌, ◌-◌, ◌≤◌, ◌<◌}
use native.Mathlib.Omega.{arith}
use mathlib.Core.Path.{◌≡◌, refl, sym, ap, ◌∙◌}
use mathlib.Core.Bool.{Bool, true, false, not, cond}
use mathlib.Core.List.{List}
use lib.ListN.{length, take, drop}
use lib.Dec.{eqb}
use lib.Seq.{take-take}
use borrow.Author.Tests.{lt-ltb, le-ltb, eq-eqb, ne_eqb}
use Rattle.topic_types.specs.declared.ControllerIncarnation.{ControllerIncarnation}
use Rattle.refusal.specs.declared.Refusal.{Refusal}
use Rattle.refusal.specs.declared.Refusal.TheVariants as refusal
use Rattle.wire_schema.specs.declared.MessageKind.TheVariants.{CommandScalableTopicAssignmentUpdate}
use Rattle.wire_schema.specs.FirstFault.{first_fault}
use Rattle.wire.specs.Fields.{fields_of}
use Rattle.wire_values.specs.Values.{merged_fields, number_in}
use Rattle.wire_readers.specs.Messages.{WireUpdate, update_of}
use Rattle.wire_readers.specs.Messages as wire
use Rattle.slice_int.specs.Be.{be, be_at}
use Rattle.slice_int.specs.Put.{put}
use Rattle.packed.specs.Assignment.{ConsumerAssignment, encode_assignment, size_assignment, num, decode_assignment, starts_assignment}
use Rattle.packed.specs.Equal.{same_assignment}
use Rattle.packed_queue.specs.Entries.{encode_entry, size_entry}
use Rattle.packed_delta.specs.Delta.{encode_delta, size_delta}
use Rattle.packed_delta.specs.Change.{delta_between}
use Rattle.intake_content.specs.Content.{Content, refused, taken, content_of}
use Rattle.session.specs.declared.SessionRecord.{SessionRecord}
use Rattle.session.specs.declared.Changed.{Changed}
use Rattle.session.specs.declared.Answer.TheVariants.{Unchanged, Delta}
use Rattle.session.specs.Store.{slot, list_in, queue_in, queue_end, write_one}
use Rattle.session.specs.Identity.{identity_topic, is_identity}
use Rattle.session.specs.Session.{view, damaged, raise, Result, refuse}
use Rattle.session.specs.Update.{with_queue_count, with_floor, update_unregistered, update_registered, update_call}
use Rattle.session.specs.Tails.{update_content, update_valid, update_checked}
use Rattle.session.specs.Calls.{CallOutcome, call_outcome, effect_of, update_outcome}
use Rattle.session_record.specs.Floors.{below_floor, floor_value}
use Rattle.session_record.proofs.FloorLaws.{floor-below, floor-met}
use Rattle.session_store.proofs.StoreLaws.{slot_at, count_most, lists-start}
use Rattle.session_store.proofs.StoreLaws as store
use Rattle.session_intake.specs.Taken.{content_in, OrderedMessageTaken}
use Rattle.session_update.specs.Address.{address_of, by_address}

-- what is answered, with the record, is the call_outcome
pub told : (st out : List ℕ) {z : CallOutcome} {x y : Changed} → x ≡ y → call_outcome y.answer y.next st out ≡ z
    → call_outcome x.answer x.next st out ≡ z
told st out e h = rw e h

-- ---- where they lie

pub buffer-epoch : (b : List ℕ) (epoch : ℕ) → epoch ≡ be_at 8 b 0 → epoch ≡ (decode_assignment b).layout_epoch
unfolding decode_assignment num be_at
buffer-epoch b epoch e = e

pub list-epoch : (st : List ℕ) (epoch : ℕ) → epoch ≡ be_at 8 st 4096 → epoch ≡ (list_in st 2).layout_epoch
unfolding list_in decode_assignment num be_at slot
list-epoch st epoch e = e ∙ ap be (sym (take-take 8 2048 (drop 4096 st) (omega arith)))

pub list-there : (st : List ℕ) → decode_assignment (take 2048 (drop 4096 st)) ≡ list_in st 2
unfolding list_in
list-there st = ap decode_assignment (slot_at st 2)

pub list-starts : (st : List ℕ) → starts_assignment (slot st 2) ≡ true → starts_assignment (take 2048 (drop 4096 st)) ≡ true
list-starts st h = ap starts_assignment (slot_at st 2) ∙ h

-- ---- a store that is not damaged

module _ (r : SessionRecord) (st : List ℕ) (e : damaged (view r st) ≡ false) where
  pub identity-valid : is_identity (slot st 0) ≡ true
  identity-valid = store.identity-valid r st (ap not e)

  pub count-valid : r.queue_count ≤ 1024
  count-valid = count_most r st (ap not e)

  pub list-valid : r.registered ≡ true → starts_assignment (slot st 2) ≡ true
  list-valid h = (lists-start r st (ap not e) h).1

-- ---- unregistered

module _ (r : SessionRecord) (st out : List ℕ) (a : ConsumerAssignment) (epoch : ℕ) (e : epoch ≡ a.layout_epoch)
    (t : Bool) (f : t ≡ below_floor epoch r.epoch_floor) where
  floor-test : below_floor a.layout_epoch r.epoch_floor ≡ t
  floor-test = ap (λ (n : ℕ). below_floor n r.epoch_floor) (sym e) ∙ sym f

  pub epoch-low : t ≡ true → (v : ℕ) → v ≡ floor_value r.epoch_floor
      → call_outcome (Err (refusal.CrossIncarnationEpochRegression epoch v)) r st out ≡ effect_of (update_unregistered (view r st) a) st out
  unfolding update_unregistered view
  epoch-low h v g = rw (e, g, floor-below a.layout_epoch r.epoch_floor (floor-test ∙ h))

  module _ (h : t ≡ false) where
    pub queue-full : r.queue_count ≡ 1024
        → call_outcome (Err (refusal.PreBaselineBufferFull 1024)) r st out ≡ effect_of (update_unregistered (view r st) a) st out
    unfolding update_unregistered view
    queue-full q = rw (floor-met a.layout_epoch r.epoch_floor (floor-test ∙ h), eq-eqb r.queue_count 1024 q)

    module _ (q : r.queue_count ≡ 1024 → ⊥) (end : ℕ) (d : end ≡ queue_end (queue_in st r.queue_count)) (n : ℕ) (z : n ≡ size_assignment a) where
      pub no_room : end ≤ length st → length st - end < 2 + n
          → call_outcome (Err (refusal.PreBaselineBufferFull r.queue_count)) r st out ≡ effect_of (update_unregistered (view r st) a) st out
      unfolding update_unregistered view
      no_room l k =
          rw (
            floor-met a.layout_epoch r.epoch_floor (floor-test ∙ h),
            ne_eqb r.queue_count 1024 q,
            lt-ltb (length st) (queue_end (queue_in st r.queue_count) + size_entry a) (omega arith),
          )

      pub queue-joined : end + (2 + n) ≤ length st → (new : List ℕ) → new ≡ put st end (encode_entry a)
          → (next : SessionRecord) → next ≡ with_queue_count r (r.queue_count + 1)
          → call_outcome (Ok Unchanged) next new out ≡ effect_of (update_unregistered (view r st) a) st out
      unfolding update_unregistered view write_one
      queue-joined l new p next x =
          rw (
            floor-met a.layout_epoch r.epoch_floor (floor-test ∙ h),
            ne_eqb r.queue_count 1024 q,
            le-ltb (length st) (queue_end (queue_in st r.queue_count) + size_entry a) (omega arith),
            p,
            x,
            d,
          )

-- ---- registered

module _ (r : SessionRecord) (st out : List ℕ) (a l : ConsumerAssignment) (p : l ≡ list_in st 2)
    (t : Bool) (f : t ≡ same_assignment l a) where
  same_test : same_assignment (list_in st 2) a ≡ t
  same_test = ap (λ (b : ConsumerAssignment). same_assignment b a) (sym p) ∙ sym f

  pub list_same : t ≡ true → call_outcome (Ok Unchanged) r st out ≡ effect_of (update_registered (view r st) a) st out
  unfolding update_registered view
  list_same h = rw (same_test ∙ h)

  module _ (h : t ≡ false) (epoch prev : ℕ) (e : epoch ≡ a.layout_epoch) (g : prev ≡ (list_in st 2).layout_epoch) where
    pub epoch-stale : epoch < prev
        → call_outcome (Err (refusal.StaleEpoch epoch prev)) r st out ≡ effect_of (update_registered (view r st) a) st out
    unfolding update_registered view
    epoch-stale q = rw (same_test ∙ h, e, g, lt-ltb a.layout_epoch (list_in st 2).layout_epoch (omega arith))

    pub list_held : prev ≤ epoch → (len : ℕ) → len ≡ size_delta (delta_between l a)
        → (delta : List ℕ) → delta ≡ put out 0 (encode_delta (delta_between l a)) → (new : List ℕ) → new ≡ put st 4096 (encode_assignment a)
        → (floor : Option ℕ) → floor ≡ raise r.epoch_floor epoch → (next : SessionRecord) → next ≡ with_floor r floor
        → call_outcome (Ok (Delta len)) next new delta ≡ effect_of (update_registered (view r st) a) st out
    unfolding update_registered view write_one
    list_held q len el delta ed new en floor ef next ex =
        rw (same_test ∙ h, le-ltb a.layout_epoch (list_in st 2).layout_epoch (omega arith), el, ed, en, ex, ef, e, p)

-- ---- what the assignment comes to

module _ (r : SessionRecord) (st out : List ℕ) (c : Content) where
  pub content-refuses : (x : Refusal) → c ≡ refused x → call_outcome (Err x) r st out ≡ effect_of (update_content (view r st) c) st out
  unfolding update_content view
  content-refuses x e = rw e

  module _ (a : ConsumerAssignment) (e : c ≡ taken a) where
    pub content-holds : r.registered ≡ true → {z : CallOutcome} → z ≡ effect_of (update_registered (view r st) a) st out
        → z ≡ effect_of (update_content (view r st) c) st out
    unfolding update_content view
    content-holds h w = w ∙ rw (e, h)

    pub content-joins : r.registered ≡ false → {z : CallOutcome} → z ≡ effect_of (update_unregistered (view r st) a) st out
        → z ≡ effect_of (update_content (view r st) c) st out
    unfolding update_content view
    content-joins h w = w ∙ rw (e, h)

-- ---- link and consumer

module _ (r : SessionRecord) (incarnation : ControllerIncarnation) (id : ℕ) where
  pub address-link : (incarnation.0 ≡ r.incarnation.0 → ⊥)
      → Err (refusal.IncarnationMismatch incarnation r.incarnation) ≡ address_of r incarnation id
  address-link h = rw (ne_eqb incarnation.0 r.incarnation.0 h)

  module _ (h : incarnation.0 ≡ r.incarnation.0) where
    pub address-consumer : (id ≡ r.consumer_id → ⊥)
        → Err (refusal.ConsumerMismatch id r.consumer_id) ≡ address_of r incarnation id
    address-consumer k = rw (eq-eqb incarnation.0 r.incarnation.0 h, ne_eqb id r.consumer_id k)

    pub address-here : id ≡ r.consumer_id → (Ok record {}) ≡ address_of r incarnation id
    address-here k = rw (eq-eqb incarnation.0 r.incarnation.0 h, eq-eqb id r.consumer_id k)

module _ (r : SessionRecord) (st out : List ℕ) (incarnation : ControllerIncarnation) (u : WireUpdate) (a : std.Result ⊤ Refusal)
    (e : a ≡ address_of r incarnation u.consumer_id) where
  -- the cascade by its first two tests
  valid-by : update_valid (view r st) incarnation u ≡ by_address a (view r st) (content_of (identity_topic (slot st 0)) u.assignment)
  unfolding update_valid view
  valid-by =
      go (eqb incarnation.0 r.incarnation.0) (eqb u.consumer_id r.consumer_id)
      ∙ sym (ap (λ (x : std.Result ⊤ Refusal). by_address x (view r st) (content_of (identity_topic (slot st 0)) u.assignment)) e)
    where
      link : Refusal
      link = refusal.IncarnationMismatch incarnation r.incarnation

      consumer : Refusal
      consumer = refusal.ConsumerMismatch u.consumer_id r.consumer_id

      content : Content
      content = content_of (identity_topic (slot st 0)) u.assignment

      go : (s t : Bool)
          → cond (not s) (refuse link (view r st)) (cond (not t) (refuse consumer (view r st)) (update_content (view r st) content))
          ≡ by_address (cond (not s) (Err link) (cond (not t) (Err consumer) (Ok record {}))) (view r st) content
      go true true = refl
      go true false = refl
      go false t = refl

  pub turned-away : (x : Refusal) → a ≡ Err x
      → call_outcome (Err x) r st out ≡ effect_of (update_valid (view r st) incarnation u) st out
  unfolding view
  turned-away x h =
      sym (ap (λ (q : Result). effect_of q st out)
      (valid-by ∙ ap (λ (y : std.Result ⊤ Refusal). by_address y (view r st) (content_of (identity_topic (slot st 0)) u.assignment)) h))

  pub let-in : a ≡ Ok record {} → {z : CallOutcome}
      → z ≡ effect_of (update_content (view r st) (content_of (identity_topic (slot st 0)) u.assignment)) st out
      → z ≡ effect_of (update_valid (view r st) incarnation u) st out
  let-in h w =
      w ∙ sym (ap (λ (q : Result). effect_of q st out)
      (valid-by ∙ ap (λ (y : std.Result ⊤ Refusal). by_address y (view r st) (content_of (identity_topic (slot st 0)) u.assignment)) h))

-- ---- the message

module _ (m : List ℕ) where
  -- its epoch, and what its assignment comes to, by its fields
  pub update-epoch : (epoch : ℕ) → epoch ≡ (update_of m).assignment.layout_epoch
      → epoch ≡ (wire.read_assignment (merged_fields 2 (fields_of m))).layout_epoch
  unfolding update_of
  update-epoch epoch e = e

  pub update-content : (st : List ℕ) {c : Content} → content_in st 2 m ≡ c → content_of (identity_topic (slot st 0)) (update_of m).assignment ≡ c
  unfolding update_of
  update-content st e = e

  -- its consumer, where it has its usual form
  pub ordered-consumer : (st b : List ℕ) (id n : ℕ) → OrderedMessageTaken st m 2 id n b → id ≡ (update_of m).consumer_id
  unfolding update_of
  ordered-consumer st b id n t = sym (ap (number_in 1) t.fields)

module _ (r : SessionRecord) (st m : List ℕ) (incarnation : ControllerIncarnation) (out : List ℕ) where
  -- what the scan leaves to say
  abbrev pub Scanned : CallOutcome → Type 0
  Scanned z = z ≡ effect_of (update_checked (view r st) incarnation m (first_fault CommandScalableTopicAssignmentUpdate m)) st out

  pub message-bad : (y : Refusal) → first_fault CommandScalableTopicAssignmentUpdate m ≡ Err y → Scanned (call_outcome (Err y) r st out)
  unfolding view
  message-bad y g = rw g

  pub message-valid : first_fault CommandScalableTopicAssignmentUpdate m ≡ Ok record {}
      → {z : CallOutcome} → z ≡ effect_of (update_valid (view r st) incarnation (update_of m)) st out → Scanned z
  message-valid g w = w ∙ rw g

-- ---- the call

module _ (r : SessionRecord) (st m : List ℕ) (incarnation : ControllerIncarnation) (out : List ℕ) where
  pub store-short : length st < 6144 → call_outcome (Err refusal.StoreTooShort) r st out ≡ update_outcome r st m incarnation out
  unfolding update_outcome update_call view
  store-short h = rw (lt-ltb (length st) 6144 h)

  module _ (h : 6144 ≤ length st) where
    pub output-short : length out < 3210 → call_outcome (Err refusal.OutputTooShort) r st out ≡ update_outcome r st m incarnation out
    unfolding update_outcome update_call view
    output-short k = rw (le-ltb (length st) 6144 h, lt-ltb (length out) 3210 k)

    module _ (k : 3210 ≤ length out) where
      pub store-bad : damaged (view r st) ≡ true → call_outcome (Err refusal.MalformedStore) r st out ≡ update_outcome r st m incarnation out
      unfolding update_outcome update_call view
      store-bad d = rw (le-ltb (length st) 6144 h, le-ltb (length out) 3210 k, d)

      pub call-sound : damaged (view r st) ≡ false → {z : CallOutcome} → Scanned r st m incarnation out z → z ≡ update_outcome r st m incarnation out
      unfolding update_outcome update_call view update_valid update_content
      call-sound d w = w ∙ rw (le-ltb (length st) 6144 h, le-ltb (length out) 3210 k, d)
