-- A message is valid in one order of its segments exactly if it is in another (`ok-update`, `ok-response`). Which fault
-- is named may differ.
--
-- In order: whether there is a fault (`ok`), and of two checks (`ok-first`); 3, 4 and 7 in the fields of an assignment
-- (`ok-reordered`) and in those of a message with an assignment in it (`ok-rearranged`); the required fields of both
-- (`whole-reordered`, `whole-update`, `whole-response`).
-- Assumes nothing.
use Rattle.std.specs.Prelude.{⊤, Result, Ok, Err}
use Prim.Native.Nat.{ℕ}
use mathlib.Core.Path.{◌≡◌, refl, sym, ap, ap₂, ◌∙◌}
use mathlib.Core.Bool.{Bool, true, false, cond, not, ◌&&◌, ◌||◌, and_assoc, and_comm, and-false}
use mathlib.Core.List.{List, ◌∷◌}
use Rattle.refusal.specs.declared.Refusal.TheVariants.{MissingField}
use Rattle.wire.specs.declared.WireType.TheVariants as type
use Rattle.wire.specs.Fields.{bytes, Field, bad_key, field, fields_of}
use Rattle.wire_values.specs.Values.{present}
use Rattle.wire_schema.specs.declared.MessageKind.{MessageKind}
use Rattle.wire_schema.specs.declared.MessageKind.TheVariants.{CommandScalableTopicAssignmentUpdate}
use Rattle.wire_schema.specs.declared.MessageKind.TheVariants.{CommandScalableTopicSubscribeResponse}
use Rattle.wire_schema.specs.declared.MessageKind.TheVariants.{ScalableConsumerAssignment, ScalableAssignedSegment}
use Rattle.wire_schema.specs.declared.ValueKind.{ValueKind}
use Rattle.wire_schema.specs.declared.ValueKind.TheVariants as value
use Rattle.wire_schema.specs.Schema.{value_for, levels}
use Rattle.wire_schema.specs.Required.{all_complete, complete_within, is_complete}
use Rattle.wire_schema.specs.FirstFault.{first, check_field, check_fields, fault_within, missing_field, first_fault}
use Rattle.wire_schema.proofs.RequiredLaws.{assignment-is, update-is, response-is}
use Rattle.keyed.specs.Shuffled.{Shuffled, nil, cons, swap, trans}
use Rattle.session_order.specs.SegmentOrder.{segment, Reordered, Rearranged, SameUpdate, SameResponse}
use Rattle.session_order.proofs.RowLaws.{numbers-reordered, numbers-rearranged, parts-reordered}
use Rattle.session_order.proofs.RowLaws.{present-rearranged, merged-rearranged}
use Rattle.refusal.specs.declared.Refusal.{Refusal}

-- there is no fault
abbrev pub ok : Result ⊤ Refusal → Bool
ok (Ok _) = true
ok (Err x) = false

ok-first : (c d : Result ⊤ Refusal) → ok (first c d) ≡ (ok c && ok d)
ok-first (Ok _) d = refl
ok-first (Err x) d = refl

and-turn : (a b c : Bool) → (a && (b && c)) ≡ (b && (a && c))
and-turn a b c = sym (and_assoc a b c) ∙ ap (λ (t : Bool). t && c) (and_comm a b) ∙ and_assoc b a c

module _ (inner : MessageKind → List ℕ → Result ⊤ Refusal) where
  -- one more field in front
  ok-cons : (k : MessageKind) (x : Field) (fs gs : List Field) → ok (check_fields inner k fs) ≡ ok (check_fields inner k gs)
      → ok (check_fields inner k (x ∷ fs)) ≡ ok (check_fields inner k (x ∷ gs))
  ok-cons k bad_key fs gs h = refl
  ok-cons k (field f w c) fs gs h =
      let y : (Result ⊤ Refusal) = check_field inner (value_for k f) w c in
      ok-first y (check_fields inner k fs)
      ∙ ap (λ (b : Bool). ok y && b) h
      ∙ sym (ok-first y (check_fields inner k gs))

  -- ---- the fields of an assignment

  abbrev A : MessageKind
  A = ScalableConsumerAssignment

  -- a segment before the field x, and behind it
  ok-later : (p : List ℕ) (x : Field) (fs : List Field)
      → ok (check_fields inner A (segment p ∷ x ∷ fs)) ≡ ok (check_fields inner A (x ∷ segment p ∷ fs))
  unfolding value_for
  ok-later p bad_key fs =
      let g : (Result ⊤ Refusal) = inner ScalableAssignedSegment p in
      ok-first g (check_fields inner A (bad_key ∷ fs)) ∙ and-false (ok g)
  ok-later p (field f w c) fs =
      let y : (Result ⊤ Refusal) = check_field inner (value_for A f) w c in
      let z : (Result ⊤ Refusal) = check_fields inner A fs in
      let g : (Result ⊤ Refusal) = inner ScalableAssignedSegment p in
      ok-first g (first y z)
      ∙ ap (λ (b : Bool). ok g && b) (ok-first y z)
      ∙ and-turn (ok g) (ok y) (ok z)
      ∙ sym (ok-first y (first g z) ∙ ap (λ (b : Bool). ok y && b) (ok-first g z))

  ok-reordered : {fs gs : List Field} → Reordered fs gs → ok (check_fields inner A fs) ≡ ok (check_fields inner A gs)
  ok-reordered Reordered.end = refl
  ok-reordered (Reordered.same x {fs} {gs} r) = ok-cons A x fs gs (ok-reordered r)
  ok-reordered (Reordered.later p x fs) = ok-later p x fs
  ok-reordered (Reordered.earlier p x fs) = sym (ok-later p x fs)
  ok-reordered (Reordered.then r s) = ok-reordered r ∙ ok-reordered s

  -- ---- the fields of a message of kind k with an assignment in field a

  module _ (k : MessageKind) (a : ℕ) (e : value_for k a ≡ value.Message A)
      (h : (p q : List ℕ) → Reordered (fields_of p) (fields_of q) → ok (inner A p) ≡ ok (inner A q)) where
    ok-value : (v : ValueKind) → v ≡ value.Message A → (p q : List ℕ) → ok (inner A p) ≡ ok (inner A q)
        → ok (check_field inner v type.Len (bytes p)) ≡ ok (check_field inner v type.Len (bytes q))
    ok-value v f p q i = rw f i

    ok-rearranged : {fs gs : List Field} → Rearranged a fs gs → ok (check_fields inner k fs) ≡ ok (check_fields inner k gs)
    ok-rearranged Rearranged.end = refl
    ok-rearranged (Rearranged.same x {fs} {gs} r) = ok-cons k x fs gs (ok-rearranged r)
    ok-rearranged (Rearranged.assignment p q {fs} {gs} s r) =
        ok-first (check_field inner (value_for k a) type.Len (bytes p)) (check_fields inner k fs)
        ∙ ap₂ ◌&&◌ (ok-value (value_for k a) e p q (h p q s)) (ok-rearranged r)
        ∙ sym (ok-first (check_field inner (value_for k a) type.Len (bytes q)) (check_fields inner k gs))

ok-assignment : (p q : List ℕ) → Reordered (fields_of p) (fields_of q)
    → ok (fault_within 3 ScalableConsumerAssignment p) ≡ ok (fault_within 3 ScalableConsumerAssignment q)
ok-assignment p q r = ok-reordered (fault_within 2) r

-- ---- required fields

module _ (inner : MessageKind → List Field → Bool) (k : MessageKind) where
  all_shuffled : {ps qs : List (List ℕ)} → Shuffled ps qs → all_complete inner k ps ≡ all_complete inner k qs
  all_shuffled nil = refl
  all_shuffled (cons p r) = ap (λ (b : Bool). inner k (fields_of p) && b) (all_shuffled r)
  all_shuffled (swap p q ps) = and-turn (inner k (fields_of p)) (inner k (fields_of q)) (all_complete inner k ps)
  all_shuffled (trans r s) = all_shuffled r ∙ all_shuffled s

whole-reordered : {fs gs : List Field} → Reordered fs gs
    → is_complete ScalableConsumerAssignment fs ≡ is_complete ScalableConsumerAssignment gs
unfolding is_complete
whole-reordered {fs} {gs} r =
    assignment-is 2 fs
    ∙ ap₂ ◌&&◌ (ap present (numbers-reordered 1 r)) (all_shuffled (complete_within 2) ScalableAssignedSegment (parts-reordered r))
    ∙ sym (assignment-is 2 gs)

whole-update : {fs gs : List Field} → Rearranged 2 fs gs
    → is_complete CommandScalableTopicAssignmentUpdate fs ≡ is_complete CommandScalableTopicAssignmentUpdate gs
whole-update {fs} {gs} r =
    update-is fs
    ∙ ap₂ ◌&&◌ (ap present (numbers-rearranged 1 r)) (ap₂ ◌&&◌ (whole-reordered (merged-rearranged 2 r)) (present-rearranged 2 r))
    ∙ sym (update-is gs)

whole-response : {fs gs : List Field} → Rearranged 4 fs gs
    → is_complete CommandScalableTopicSubscribeResponse fs ≡ is_complete CommandScalableTopicSubscribeResponse gs
whole-response {fs} {gs} r =
    response-is fs
    ∙ ap₂ ◌&&◌ (ap present (numbers-rearranged 1 r))
    (ap₂ ◌||◌ (whole-reordered (merged-rearranged 4 r)) (ap not (present-rearranged 4 r)))
    ∙ sym (response-is gs)

-- ---- the two messages

module _ (k : MessageKind) (m n : List ℕ) (r : ok (fault_within (levels k) k m) ≡ ok (fault_within (levels k) k n))
    (w : is_complete k (fields_of m) ≡ is_complete k (fields_of n)) where
  ok-both : ok (first_fault k m) ≡ ok (first_fault k n)
  unfolding first_fault
  ok-both =
      ok-first (fault_within (levels k) k m) (missing_field k (fields_of m))
      ∙ ap₂ ◌&&◌ r (ap (λ (b : Bool). ok (cond b (Ok record {}) (Err MissingField))) w)
      ∙ sym (ok-first (fault_within (levels k) k n) (missing_field k (fields_of n)))

pub ok-update : (m n : List ℕ) → SameUpdate m n
    → ok (first_fault CommandScalableTopicAssignmentUpdate m) ≡ ok (first_fault CommandScalableTopicAssignmentUpdate n)
unfolding value_for
ok-update m n r =
    ok-both CommandScalableTopicAssignmentUpdate m n
    (ok-rearranged (fault_within 3) CommandScalableTopicAssignmentUpdate 2 refl ok-assignment r) (whole-update r)

pub ok-response : (m n : List ℕ) → SameResponse m n
    → ok (first_fault CommandScalableTopicSubscribeResponse m) ≡ ok (first_fault CommandScalableTopicSubscribeResponse n)
unfolding value_for
ok-response m n r =
    ok-both CommandScalableTopicSubscribeResponse m n
    (ok-rearranged (fault_within 3) CommandScalableTopicSubscribeResponse 4 refl ok-assignment r) (whole-response r)
