-- An accepted update leaves a set: the bytes of the answered length at the front of the buffer are a packed set again.
--
-- In order: a rising list of short UTF-8 topics is a set (`set-of`); what a message without a fault says of its parts (`parts-utf8`) and of
-- its event (`event-valid`, `member-event`); the law (`leaves-of-short`, `leaves-a-set`).
-- Assumes nothing.
use Rattle.std.specs.Prelude.{⊤, Result, Ok, Err}
use Prim.Native.Nat.{ℕ, ◌^◌}
use native.Mathlib.Omega.{arith}
use mathlib.Core.Path.{◌≡◌, refl, sym, ap, ◌∙◌, subst}
use mathlib.Core.Bool.{Bool, true, false, cond, not, ◌&&◌, false≢true}
use mathlib.Core.List.{List, [], ◌∷◌, ◌++◌}
use lib.ListN.{length, take}
use lib.Dec.{leb, ltb, eqb}
use borrow.Author.Tests.{eqb-true}
use Rattle.slice.specs.BoolLaws.{both, both_true}
use Rattle.slice.proofs.PartLaws.{Bytes, Bytes-take}
use Rattle.refusal.specs.declared.Refusal.{Refusal}
use Rattle.refusal.specs.declared.Refusal.TheVariants.{InvalidWireFormat, WrongWireType, InvalidUtf8}
use Rattle.refusal.specs.declared.Refusal.TheVariants.{MalformedSet, WatchMismatch, SetTooLong, ResultTooLong}
use Rattle.slice_int.specs.Put.{put}
use Rattle.utf8.specs.Table.{is_utf8}
use Rattle.wire.specs.declared.WireType.{WireType}
use Rattle.wire.specs.Fields.{Payload, number, bytes, fixed, cut, Field, bad_key, field, fields_of}
use Rattle.wire_schema.specs.declared.MessageKind.{MessageKind}
use Rattle.wire_schema.specs.declared.MessageKind.TheVariants.{CommandWatchScalableTopicsUpdate, ScalableTopicsSnapshot, ScalableTopicsDiff}
use Rattle.wire_schema.specs.declared.ValueKind.{ValueKind}
use Rattle.wire_schema.specs.declared.ValueKind.TheVariants as value
use Rattle.wire_schema.specs.Schema.{value_for, fits_wire}
use Rattle.wire_schema.specs.FirstFault.{first, check_value, check_field, check_fields, fault_within, first_fault}
use Rattle.wire_values.specs.Values.{parts_of, Member, absent, holds, member_behind, is_member, member_by, member_after, member_of}
use Rattle.wire_readers.specs.Messages.{WireEvent, none, snapshot, diff, event_fields, event_by, read_event, WireWatchUpdate, watch_update_of}
use Rattle.keyed.proofs.KeyedLaws.{choose}
use Rattle.watch_topics.specs.Topics.{has, rising, all_short}
use Rattle.watch_topics.specs.Packed.{decode_topics, is_whole, all_utf8, encode_topics, size_topics, is_set}
use Rattle.watch_topics.proofs.SetLaws.{rising-insert_all, rising-sorted}
use Rattle.watch_topics.proofs.EachLaws.{short-insert_all, short-parts, utf8-insert_all, utf8-filter}
use Rattle.watch_topics.proofs.PackedLaws.{length-encode, read_back, whole_back, read_short}
use Rattle.watch_window.specs.Lists.{kept}
use Rattle.watch.specs.Watch.{Change, WatchOutcome, snapshot_change, snapshot_by, diff_change, diff_by, no_event, refuse}
use Rattle.watch.specs.Watch.{settle, by_event, for_watch, when_checked, handle_update}
use Rattle.watch.proofs.ListLaws.{rising-kept, short-kept}
use Rattle.watch.proofs.SettleLaws.{set-whole}
use Rattle.watch.proofs.WriteLaws.{take-front}

-- ---- a list that is a set

set-of : (l : List (List ℕ)) → rising l ≡ true → all_utf8 l ≡ true → all_short l ≡ true → is_set (encode_topics l) ≡ true
unfolding is_set
set-of l r u s = rw (whole_back l s, read_back l s) (both (all_utf8 l) (rising l) u r)

set-utf8 : (l : List ℕ) → is_set l ≡ true → all_utf8 (decode_topics l) ≡ true
unfolding is_set
set-utf8 l g =
    (both_true (all_utf8 (decode_topics l)) (rising (decode_topics l)) (both_true (is_whole l) (all_utf8 (decode_topics l) && rising (decode_topics l)) g).1).0

utf8-kept : (old removed : List (List ℕ)) → all_utf8 old ≡ true → all_utf8 (kept old removed) ≡ true
unfolding kept
utf8-kept old removed u = utf8-filter (λ t. not (has t removed)) old u

-- ---- a message without a fault

abbrev update : MessageKind
update = CommandWatchScalableTopicsUpdate

-- the answer of a message without a fault
abbrev valid : Result ⊤ Refusal
valid = Ok record {}

refused-valid : (x : Refusal) → ◌≡◌ {A = Result ⊤ Refusal} (Err x) valid → ⊥
refused-valid x e = let z : ◌≡◌ {A = ℕ} 0 1 = cc in omega arith

first-left : (a b : Result ⊤ Refusal) → first a b ≡ valid → a ≡ valid
first-left (Ok r) b e = refl
first-left (Err x) b e = absurd (refused-valid x e)

first-right : (a b : Result ⊤ Refusal) → first a b ≡ valid → b ≡ valid
first-right (Ok r) b e = e
first-right (Err x) b e = absurd (refused-valid x e)

module _ (inner : MessageKind → List ℕ → Result ⊤ Refusal) where
  value-valid : (v : ValueKind) (w : WireType) (c : Payload) → check_field inner v w c ≡ valid → check_value inner v c ≡ valid
  value-valid v w c e = go (fits_wire v w) e
    where
      go : (a : Bool) → cond a (check_value inner v c) (Err WrongWireType) ≡ valid → check_value inner v c ≡ valid
      go true f = f
      go false f = absurd (refused-valid WrongWireType f)

  text-valid : (l : List ℕ) → check_value inner value.Text (bytes l) ≡ valid → is_utf8 l ≡ true
  text-valid l e = go (is_utf8 l) e
    where
      go : (b : Bool) → cond b valid (Err InvalidUtf8) ≡ valid → b ≡ true
      go true f = refl
      go false f = absurd (refused-valid InvalidUtf8 f)

  module _ (k : MessageKind) where
    -- the field at the front has no fault, and neither have those behind it
    head-valid : (f : ℕ) (w : WireType) (c : Payload) (fs : List Field)
        → check_fields inner k (field f w c ∷ fs) ≡ valid → check_value inner (value_for k f) c ≡ valid
    head-valid f w c fs e = value-valid (value_for k f) w c (first-left (check_field inner (value_for k f) w c) _ e)

    tail-valid : (f : ℕ) (w : WireType) (c : Payload) (fs : List Field)
        → check_fields inner k (field f w c ∷ fs) ≡ valid → check_fields inner k fs ≡ valid
    tail-valid f w c fs e = first-right (check_field inner (value_for k f) w c) _ e

    -- a part of field n has no fault as what that field holds
    part-valid : (n : ℕ) (v : ValueKind) → value_for k n ≡ v → (f : ℕ) (w : WireType) (l : List ℕ) (fs : List Field)
        → eqb f n ≡ true → check_fields inner k (field f w (bytes l) ∷ fs) ≡ valid → check_value inner v (bytes l) ≡ valid
    part-valid n v t f w l fs q e =
        subst (λ (x : ValueKind). check_value inner x (bytes l) ≡ valid) (ap (value_for k) (eqb-true f n q) ∙ t)
        (head-valid f w (bytes l) fs e)

    -- two rows without a fault, one behind the other
    rows-valid : (fs gs : List Field) → check_fields inner k fs ≡ valid → check_fields inner k gs ≡ valid → check_fields inner k (fs ++ gs) ≡ valid
    rows-valid [] gs e g = g
    rows-valid (bad_key ∷ fs) gs e g = absurd (refused-valid InvalidWireFormat e)
    rows-valid (field f w c ∷ fs) gs e g =
        rw (first-left (check_field inner (value_for k f) w c) _ e) (rows-valid fs gs (tail-valid f w c fs e) g)

    -- the parts of a field whose values are texts
    parts-utf8 : (n : ℕ) → value_for k n ≡ value.Text → (fs : List Field) → check_fields inner k fs ≡ valid → all_utf8 (parts_of n fs) ≡ true
    unfolding all_utf8
    parts-utf8 n t [] e = refl
    parts-utf8 n t (bad_key ∷ fs) e = absurd (refused-valid InvalidWireFormat e)
    parts-utf8 n t (field f w (number v) ∷ fs) e = parts-utf8 n t fs (tail-valid f w (number v) fs e)
    parts-utf8 n t (field f w fixed ∷ fs) e = parts-utf8 n t fs (tail-valid f w fixed fs e)
    parts-utf8 n t (field f w cut ∷ fs) e = parts-utf8 n t fs (tail-valid f w cut fs e)
    parts-utf8 n t (field f w (bytes l) ∷ fs) e =
        let i = parts-utf8 n t fs (tail-valid f w (bytes l) fs e) in
        choose (λ (x : List (List ℕ)). all_utf8 x ≡ true) (eqb f n) {x = l ∷ parts_of n fs} {y = parts_of n fs}
        (λ q. both (is_utf8 l) (all_utf8 (parts_of n fs)) (text-valid l (part-valid n value.Text t f w l fs q e)) i) (λ q. i)

-- ---- the topics of an event

-- the kind of message that is the event in field f
abbrev event_kind : ℕ → MessageKind
event_kind f = cond (eqb f 2) ScalableTopicsSnapshot ScalableTopicsDiff

abbrev MemberValid : Member → Type 0
MemberValid absent = Unit {0}
MemberValid (holds f fs) = check_fields (fault_within 0) (event_kind f) fs ≡ valid

-- an event behind another
behind-valid : (m : Member) (f : ℕ) (fs : List Field) → MemberValid m → MemberValid (holds f fs) → MemberValid (member_behind m f fs)
behind-valid absent f fs h g = g
behind-valid (holds k before) f fs h g =
    choose MemberValid (eqb k f)
    (λ e. rows-valid (fault_within 0) (event_kind f) before fs
    (subst (λ (n : ℕ). check_fields (fault_within 0) (event_kind n) before ≡ valid) (eqb-true k f e) h) g)
    (λ _. g)

-- the part of an event
event-part : (f : ℕ) (w : WireType) (p : List ℕ) (fs : List Field) → check_fields (fault_within 1) update (field f w (bytes p) ∷ fs) ≡ valid
    → is_member f event_fields ≡ true → MemberValid (holds f (fields_of p))
unfolding value_for
event-part f w p fs q e = go (eqb f 2) refl (eqb f 3) refl e
  where
    go : (a : Bool) → eqb f 2 ≡ a → (b : Bool) → eqb f 3 ≡ b → cond a true (cond b true false) ≡ true
        → check_fields (fault_within 0) (cond a ScalableTopicsSnapshot ScalableTopicsDiff) (fields_of p) ≡ valid
    go true i b j g = part-valid (fault_within 1) update 2 (value.Message ScalableTopicsSnapshot) refl f w p fs i q
    go false i true j g = part-valid (fault_within 1) update 3 (value.Message ScalableTopicsDiff) refl f w p fs j q
    go false i false j g = absurd (false≢true g)

event-valid : (m : Member) (fs : List Field) → MemberValid m → check_fields (fault_within 1) update fs ≡ valid
    → MemberValid (member_after event_fields m fs)
event-valid m [] h q = h
event-valid m (bad_key ∷ fs) h q = absurd (refused-valid InvalidWireFormat q)
event-valid m (field f w (number v) ∷ fs) h q = event-valid m fs h (tail-valid (fault_within 1) update f w (number v) fs q)
event-valid m (field f w fixed ∷ fs) h q = event-valid m fs h (tail-valid (fault_within 1) update f w fixed fs q)
event-valid m (field f w cut ∷ fs) h q = event-valid m fs h (tail-valid (fault_within 1) update f w cut fs q)
event-valid m (field f w (bytes p) ∷ fs) h q =
    event-valid (member_by event_fields m f p) fs
    (choose MemberValid (is_member f event_fields) (λ i. behind-valid m f (fields_of p) h (event-part f w p fs q i)) (λ _. h))
    (tail-valid (fault_within 1) update f w (bytes p) fs q)

abbrev EventValid : WireEvent → Type 0
EventValid none = Unit {0}
EventValid (snapshot fs) = check_fields (fault_within 0) ScalableTopicsSnapshot fs ≡ valid
EventValid (diff fs) = check_fields (fault_within 0) ScalableTopicsDiff fs ≡ valid

member-event : (m : Member) → MemberValid m → EventValid (event_by m)
member-event absent h = tt
member-event (holds f fs) h = go (eqb f 2) h
  where
    go : (b : Bool) → check_fields (fault_within 0) (cond b ScalableTopicsSnapshot ScalableTopicsDiff) fs ≡ valid
        → EventValid (cond b (snapshot fs) (diff fs))
    go true g = g
    go false g = g

snapshot-utf8 : (fs : List Field) → EventValid (snapshot fs) → all_utf8 (parts_of 1 fs) ≡ true
unfolding value_for
snapshot-utf8 fs e = parts-utf8 (fault_within 0) ScalableTopicsSnapshot 1 refl fs e

diff-utf8 : (fs : List Field) → EventValid (diff fs) → all_utf8 (parts_of 1 fs) ≡ true
unfolding value_for
diff-utf8 fs e = parts-utf8 (fault_within 0) ScalableTopicsDiff 1 refl fs e

-- ---- the law

-- where the outcome is a change, the new set's bytes are a set
abbrev Leaves : WatchOutcome → Type 0
Leaves o = (a b : ℕ) → o.answer ≡ Ok (a, b) → is_set (take a o.buffer) ≡ true

-- the length of the set that is told
abbrev set_length : Result (ℕ × ℕ) Refusal → ℕ
set_length (Ok r) = r.0
set_length (Err x) = 0

module _ (buffer out : List ℕ) where
  refused : (x : Refusal) → Leaves (refuse buffer out x)
  refused x a b e = let z : ◌≡◌ {A = ℕ} 0 1 = cc in absurd (omega arith)

  settled : (c : Change) → rising c.topics ≡ true → all_utf8 c.topics ≡ true
      → (all_short c.named ≡ true → all_short c.topics ≡ true) → Leaves (settle buffer out c)
  unfolding settle
  settled c r u s =
      choose Leaves (all_short c.named && leb (size_topics c.topics) (length buffer))
      (λ e. choose Leaves (ltb c.added (2 ^ 32) && leb (length c.output) (length out))
      (λ f a b g. set a b g (s (both_true (all_short c.named) (leb (size_topics c.topics) (length buffer)) e).0))
      (λ f. refused ResultTooLong))
      (λ e. refused SetTooLong)
    where
      set : (a b : ℕ) → ◌≡◌ {A = Result (ℕ × ℕ) Refusal} (Ok (size_topics c.topics, length c.output)) (Ok (a, b)) → all_short c.topics ≡ true
          → is_set (take a (put buffer 0 (encode_topics c.topics))) ≡ true
      set a b g t =
          let h : size_topics c.topics ≡ a = ap set_length g in
          ap is_set (take-front buffer (encode_topics c.topics) a (sym h ∙ sym (length-encode c.topics))) ∙ set-of c.topics r u t

  snapshot-leaves : (p : List Field) → EventValid (snapshot p) → Leaves (settle buffer out (snapshot_by p))
  unfolding snapshot_change all_utf8 all_short
  snapshot-leaves p e =
      let ts = parts_of 1 p in
      settled (snapshot_by p) (rising-sorted ts) (utf8-insert_all ts [] (snapshot-utf8 p e) refl) (λ s. short-insert_all ts [] s refl)

  module _ (used : ℕ) (t : all_short (decode_topics (take used buffer)) ≡ true) (g : is_set (take used buffer) ≡ true) where
    abbrev old : List (List ℕ)
    old = decode_topics (take used buffer)

    diff-leaves : (p : List Field) → EventValid (diff p) → Leaves (settle buffer out (diff_by old p))
    unfolding diff_change
    diff-leaves p e =
        let adds = parts_of 1 p in
        let removes = parts_of 2 p in
        let k = kept old removes in
        let q = set-whole (take used buffer) g in
        settled (diff_by old p) (rising-insert_all adds k (rising-kept old removes adds q.1))
        (utf8-insert_all adds k (diff-utf8 p e) (utf8-kept old removes (set-utf8 (take used buffer) g)))
        (λ s. short-insert_all adds k (short-parts adds removes s).0 (short-kept old removes adds t))

    event-leaves : (u : WireWatchUpdate) (e : WireEvent) → EventValid e → Leaves (by_event buffer out old u e)
    unfolding by_event
    event-leaves u (snapshot p) h = snapshot-leaves p h
    event-leaves u (diff p) h = diff-leaves p h
    event-leaves u none h = refused (no_event u.watch_id u.error)

    valid-leaves : (id : ℕ) (m : List ℕ) → first_fault update m ≡ valid → Leaves (for_watch buffer out id old (watch_update_of m))
    unfolding first_fault for_watch watch_update_of read_event
    valid-leaves id m e =
        let u = watch_update_of m in
        choose Leaves (not (eqb u.watch_id id)) (λ _. refused (WatchMismatch u.watch_id id))
        (λ _. event-leaves u u.event
        (member-event (member_of event_fields (fields_of m)) (event-valid absent (fields_of m) tt (first-left (fault_within 2 update m) _ e))))

    checked-leaves : (id : ℕ) (m : List ℕ) (c : Result ⊤ Refusal) → first_fault update m ≡ c → Leaves (when_checked buffer out id old m c)
    checked-leaves id m (Err x) e = refused x
    checked-leaves id m (Ok r) e = valid-leaves id m e

  -- an accepted update leaves a set, where the topics before it have 16-bit lengths
  pub leaves-of-short : (id used : ℕ) (message : List ℕ) → (is_set (take used buffer) ≡ true → all_short (decode_topics (take used buffer)) ≡ true)
      → (a b : ℕ) → (handle_update buffer out id used message).answer ≡ Ok (a, b)
      → is_set (take a (handle_update buffer out id used message).buffer) ≡ true
  unfolding handle_update for_watch by_event settle
  leaves-of-short id used message t =
      choose Leaves (leb used (length buffer) && is_set (take used buffer))
      (λ e. let g = (both_true (leb used (length buffer)) (is_set (take used buffer)) e).1 in
      checked-leaves used (t g) g id message (first_fault update message) refl)
      (λ e. refused MalformedSet)

  -- which they have in a buffer of bytes
  pub leaves-a-set : (id used : ℕ) (message : List ℕ) → Bytes buffer → (a b : ℕ)
      → (handle_update buffer out id used message).answer ≡ Ok (a, b)
      → is_set (take a (handle_update buffer out id used message).buffer) ≡ true
  leaves-a-set id used message b =
      leaves-of-short id used message
      (λ g. read_short (take used buffer) (Bytes-take used buffer b) (set-whole (take used buffer) g).0)
