-- Laws of messages in their usual form: what the walk reads is a field, and a message of such fields is valid at any depth.
--
-- In order: a one-byte key (`key_one`), and the field behind it (`number-field`, `part_field`, `number-some`); a range (`range-ordered`); the fields up to a place of
-- a segment or an assignment (`segment-start`, `assignment-start`, `passed-message`), and the whole (`passed-end`); a message that holds an assignment
-- (`carrier-ordered`); a place that is not told (`none_above`).
-- Assumes nothing.
use Rattle.std.specs.Prelude.{Some}
use Prim.Native.Nat.{ℕ, zero, suc, ◌+◌, ◌-◌, ◌*◌, ◌/◌, ◌%◌, ◌≤◌, ◌<◌}
use native.Mathlib.Nat.{add-sub_cancel_left, mul-add-div, mul-add-mod_self_left, div-eq_of_lt, mod-eq_of_lt}
use native.Mathlib.Omega.{arith}
use mathlib.Core.Path.{◌≡◌, refl, sym, ap, ◌∙◌}
use mathlib.Core.Bool.{true}
use mathlib.Core.List.{List, [], ◌∷◌}
use lib.ListN.{length, take, drop, get_or, length-drop}
use lib.Seq.{drop-drop, get_or-drop}
use borrow.Author.Tests.{eq-eqb}
use Rattle.slice.proofs.PartLaws.{rest}
use Rattle.wire.specs.declared.WireType.TheVariants as wire
use Rattle.wire.specs.declared.Body.TheVariants as body
use Rattle.wire.specs.Varints.{varint_of}
use Rattle.wire.specs.Field.{typed_key, key_read, body_of}
use Rattle.wire.specs.Fields.{number, bytes, Field, field, fields_of}
use Rattle.wire.proofs.VarintLaws.{varint-one, varint-size}
use Rattle.wire.proofs.FieldLaws.{key-typed, number-value, body-size-after}
use Rattle.wire.proofs.FieldsLaws.{fields-nil, fields-number, fields-part}
use Rattle.utf8.specs.Table.{is_utf8}
use Rattle.wire_values.specs.Values.{parts_of}
use Rattle.wire_schema.specs.declared.MessageKind.{MessageKind}
use Rattle.wire_schema.specs.declared.MessageKind.TheVariants.{ScalableConsumerAssignment, ScalableAssignedSegment, IntRange}
use Rattle.wire_schema.specs.declared.ValueKind.TheVariants.{Message}
use Rattle.wire_schema.specs.Schema.{value_for}
use Rattle.wire_schema.specs.Required.{all_complete, complete_within}
use Rattle.wire_schema.specs.FirstFault.{check_fields, fault_within, Sound}
use Rattle.wire_schema.proofs.RequiredLaws.{segment-is, assignment-is}
use Rattle.wire_schema.proofs.SoundLaws.{range-sound}
use Rattle.wire_ordered.specs.Ordered.{NumberIs, NumberField, PartField, Passed, Carrier}

-- ---- a field with a one-byte key

module _ (f : ℕ) (s : List ℕ) (at : ℕ) (h : at < length s) (low : 0 < f) (high : f < 16) where
  key_one : (t : ℕ) → t < 8 → get_or s at 0 ≡ 8 * f + t → key_read (drop at s) ≡ typed_key f t 1
  key_one t g e =
      let z : at + 0 ≡ at = omega arith in
      let b : get_or (drop at s) 0 0 ≡ 8 * f + t = get_or-drop at s 0 0 ∙ ap (λ (i : ℕ). get_or s i 0) z ∙ e in
      let v : varint_of (drop at s) ≡ Some (8 * f + t, 1) =
      varint-one (drop at s) (omega (arith, length-drop at s)) (omega arith) ∙ rw b in
      let d : (8 * f + t) / 8 ≡ f = omega (arith, mul-add-div {m = 8} (omega arith) f t, div-eq_of_lt g) in
      let m : (8 * f + t) % 8 ≡ t = mul-add-mod_self_left 8 f t ∙ mod-eq_of_lt g in
      key-typed (drop at s) (8 * f + t) 1 v (omega arith) (λ q. omega arith) t m ∙ rw d

  pub number-field : get_or s at 0 ≡ 8 * f → (v n : ℕ) → varint_of (take (length s - (at + 1)) (drop (at + 1) s)) ≡ Some (v, n)
      → NumberIs f s at v (at + 1 + n)
  number-field e v n g =
      let k = key_one 0 (omega arith) (omega arith) in
      let q : varint_of (drop (at + 1) s) ≡ Some (v, n) = ap varint_of (sym (rest s (at + 1))) ∙ g in
      let z = varint-size (drop (at + 1) s) v n q in
      let b : body_of wire.Varint (drop 1 (drop at s)) ≡ Some (body.Number v n) = rw (drop-drop 1 at s) (number-value (drop (at + 1) s) v n q) in
      let a : at + (1 + n) ≡ at + 1 + n = omega arith in
      record {
        moved = omega arith;
        within = omega (arith, length-drop (at + 1) s);
        fields =
            fields-number (drop at s) (omega (arith, length-drop at s)) f wire.Varint 1 k v n b ∙ rw (drop-drop (1 + n) at s, a);
      }

  pub part_field : get_or s at 0 ≡ 8 * f + 2 → (n len : ℕ)
      → body_of wire.Len (take (length s - (at + 1)) (drop (at + 1) s)) ≡ Some (body.Part n len)
      → PartField f s at (at + 1 + n) (at + 1 + n + len)
  part_field e n len g =
      let k = key_one 2 (omega arith) e in
      let q : body_of wire.Len (drop (at + 1) s) ≡ Some (body.Part n len) = ap (body_of wire.Len) (sym (rest s (at + 1))) ∙ g in
      let z : n + len ≤ length s - (at + 1) = body-size-after wire.Len s (at + 1) (Some (body.Part n len)) q in
      let b : body_of wire.Len (drop 1 (drop at s)) ≡ Some (body.Part n len) = rw (drop-drop 1 at s) q in
      let a : at + (1 + (n + len)) ≡ at + 1 + n + len = omega arith in
      record {
        moved = omega arith;
        ordered = omega arith;
        within = omega arith;
        fields =
            fields-part (drop at s) (omega (arith, length-drop at s)) f wire.Len 1 k n len b
            ∙ rw (drop-drop (1 + (n + len)) at s, drop-drop 1 at s, drop-drop n (at + 1) s, a, add-sub_cancel_left (at + 1 + n) len);
      }

-- a number's field, whatever the number
pub number-some : {f : ℕ} {s : List ℕ} {at v to : ℕ} → NumberIs f s at v to → NumberField f s at to
number-some {v = v} n = record { moved = n.moved; within = n.within; value = v; fields = n.fields }

-- ---- a range

pub range-ordered : (s : List ℕ) {a b : ℕ} → NumberField 1 s 0 a → NumberField 2 s a b → length s ≤ b → (d : ℕ) → Sound d IntRange s
range-ordered s {b = b} m n h d =
    let z : fields_of (drop b s) ≡ [] = fields-nil (drop b s) (omega (arith, length-drop b s)) in
    range-sound d s m.value n.value (m.fields ∙ rw (n.fields, z))

-- ---- the fields up to a place

-- fields 1 to 4 of a segment
pub segment-start : (s : List ℕ) {a b c from to : ℕ} → NumberField 1 s 0 a → NumberField 2 s a b → NumberField 3 s b c
    → PartField 4 s c from to → is_utf8 (take (to - from) (drop from s)) ≡ true → Passed ScalableAssignedSegment IntRange 5 s to
unfolding value_for
segment-start s {from = from} {to = to} l m n t u =
    let row : List Field =
    field 1 wire.Varint (number l.value)
    ∷ field 2 wire.Varint (number m.value)
    ∷ field 3 wire.Varint (number n.value)
    ∷ field 4 wire.Len (bytes (take (to - from) (drop from s)))
    ∷ fields_of (drop to s) in
    let e : fields_of s ≡ row = l.fields ∙ rw (m.fields, n.fields, t.fields) in
    record {
      within = t.within;
      read = λ d. ap (check_fields (fault_within d) ScalableAssignedSegment) e ∙ rw u;
      whole = λ d. ap (complete_within (suc d) ScalableAssignedSegment) e ∙ segment-is d row;
    }

-- field 1 of an assignment
pub assignment-start : (s : List ℕ) {a : ℕ} → NumberField 1 s 0 a → Passed ScalableConsumerAssignment ScalableAssignedSegment 2 s a
unfolding value_for
assignment-start s {a} n =
    let row : List Field = field 1 wire.Varint (number n.value) ∷ fields_of (drop a s) in
    record {
      within = n.within;
      read = λ d. ap (check_fields (fault_within d) ScalableConsumerAssignment) n.fields;
      whole = λ d. ap (complete_within (suc d) ScalableConsumerAssignment) n.fields ∙ assignment-is d row;
    }

module _ {k j : MessageKind} {f : ℕ} {s : List ℕ} {at : ℕ} (p : Passed k j f s at) where
  -- the whole message
  pub passed-end : length s ≤ at → (d : ℕ) → Sound d k s
  passed-end h zero = record { read = refl; whole = refl }
  passed-end h (suc d) =
      let z : fields_of (drop at s) ≡ [] = fields-nil (drop at s) (omega (arith, length-drop at s)) in
      record {
        read = p.read d ∙ ap (check_fields (fault_within d) k) z;
        whole = p.whole d ∙ ap (λ (fs : List Field). all_complete (complete_within d) j (parts_of f fs)) z;
      }

  -- one more message in field f
  pub passed-message : {from to : ℕ} → value_for k f ≡ Message j → PartField f s at from to
      → ((d : ℕ) → Sound d j (take (to - from) (drop from s))) → Passed k j f s to
  passed-message {from} {to} e n v = record {
    within = n.within;
    read = λ d. p.read d ∙ ap (check_fields (fault_within d) k) n.fields ∙ rw (e, (v d).read);
    whole = λ d. p.whole d
        ∙ ap (λ (fs : List Field). all_complete (complete_within d) j (parts_of f fs)) n.fields
        ∙ rw (eq-eqb f f refl, (v d).whole);
  }

-- ---- a message that holds an assignment

pub carrier-ordered : (n : ℕ) (s : List ℕ) {a from to : ℕ} → NumberField 1 s 0 a → PartField n s a from to → length s ≤ to
    → ((d : ℕ) → Sound d ScalableConsumerAssignment (take (to - from) (drop from s))) → Carrier n s
carrier-ordered n s {from = from} {to = to} i p h v =
    let z : fields_of (drop to s) ≡ [] = fields-nil (drop to s) (omega (arith, length-drop to s)) in
    record { head = i.value; part = take (to - from) (drop from s); fields = i.fields ∙ rw (p.fields, z); sound = v }

-- ---- what is not told

pub none_above : {A : Type 0} → 0 < 0 → A
none_above h = absurd (let z : ⊥ = omega arith in z)
