-- Messages are nested no deeper than `levels` says: a larger depth changes nothing.
--
-- In order: what a field holds lies below its message (`Below`, `value-below`); two checks of inner messages that agree below a level give
-- the same (`fields-same`, `row_same`); one level more, and any number more, than `levels` says (`levels-more`, `complete-more`).
-- Assumes nothing.
use Rattle.std.specs.Prelude.{⊤, Result}
use Prim.Native.Nat.{ℕ, zero, suc, ◌+◌, ◌≤◌, ◌<◌}
use native.Mathlib.Omega.{arith}
use mathlib.Core.Path.{◌≡◌, refl, ◌∙◌}
use mathlib.Core.Bool.{Bool, true, false, cond}
use mathlib.Core.List.{List, [], ◌∷◌}
use lib.Dec.{eqb}
use Rattle.wire.specs.Fields.{Payload, number, bytes, fixed, cut, Field, bad_key, field, fields_of}
use Rattle.wire_schema.specs.declared.MessageKind.{MessageKind}
use Rattle.wire_schema.specs.declared.MessageKind.TheVariants.{
  CommandScalableTopicAssignmentUpdate,
  CommandScalableTopicSubscribeResponse,
  ScalableConsumerAssignment,
  ScalableAssignedSegment,
  IntRange,
  CommandWatchScalableTopicsUpdate,
  ScalableTopicsSnapshot,
  ScalableTopicsDiff,
}
use Rattle.wire_schema.specs.declared.ValueKind.{ValueKind}
use Rattle.wire_schema.specs.declared.ValueKind.TheVariants as value
use Rattle.wire_values.specs.Values.{parts_of, merged_fields, Member, absent, holds, member_of}
use Rattle.wire_schema.specs.Schema.{required, optional, repeated, oneof, SchemaField, has, schema, value_of, field_kind, value_in, value_for}
use Rattle.wire_schema.specs.Schema.{members_of, levels}
use Rattle.wire_schema.specs.Required.{value_complete, all_complete, each_complete, member_complete, field_complete, all_fields}
use Rattle.wire_schema.specs.Required.{complete_within, is_complete}
use Rattle.wire_schema.specs.FirstFault.{check_value, check_fields, fault_within}
use Rattle.refusal.specs.declared.Refusal.{Refusal}

-- ---- what a field holds

-- a message in a field has fewer levels than d
abbrev Below : ℕ → ValueKind → Type 0
Below d value.Any = Unit {0}
Below d value.Number = Unit {0}
Below d value.Text = Unit {0}
Below d (value.Message j) = levels j < d

abbrev AllBelow : ℕ → List SchemaField → Type 0
AllBelow d [] = Unit {0}
AllBelow d (r ∷ rs) = Below d (field_kind r) × AllBelow d rs

below-cond : (d : ℕ) (b : Bool) (p q : ValueKind) → Below d p → Below d q → Below d (cond b p q)
below-cond d true p q h g = h
below-cond d false p q h g = g

below_in : (d f : ℕ) (rs : List SchemaField) → AllBelow d rs → Below d (value_in f rs)
below_in d f [] h = tt
below_in d f (has g a t ∷ rs) h = below-cond d (eqb f g) (field_kind (has g a t)) (value_in f rs) h.0 (below_in d f rs h.1)

schema-below : (k : MessageKind) → AllBelow (levels k) (schema k)
schema-below CommandScalableTopicAssignmentUpdate = (tt, (omega arith, tt))
schema-below CommandScalableTopicSubscribeResponse = (tt, (tt, (tt, (omega arith, tt))))
schema-below ScalableConsumerAssignment = (tt, (omega arith, tt))
schema-below ScalableAssignedSegment = (tt, (tt, (tt, (tt, (omega arith, tt)))))
schema-below IntRange = (tt, (tt, tt))
schema-below CommandWatchScalableTopicsUpdate = (tt, (omega arith, (omega arith, (tt, (tt, tt)))))
schema-below ScalableTopicsSnapshot = (tt, tt)
schema-below ScalableTopicsDiff = (tt, (tt, tt))

value-below : (k : MessageKind) (f : ℕ) → Below (levels k) (value_for k f)
unfolding value_for
value-below k f = below_in (levels k) f (schema k) (schema-below k)

-- ---- two checks of inner messages

module _ (k : MessageKind) (p q : MessageKind → List ℕ → Result ⊤ Refusal)
    (same : (j : MessageKind) (l : List ℕ) → levels j < levels k → p j l ≡ q j l) where
  value_same : (v : ValueKind) (c : Payload) → Below (levels k) v → check_value p v c ≡ check_value q v c
  value_same v cut h = refl
  value_same v (number n) h = refl
  value_same v fixed h = refl
  value_same value.Any (bytes l) h = refl
  value_same value.Number (bytes l) h = refl
  value_same value.Text (bytes l) h = refl
  value_same (value.Message j) (bytes l) h = same j l h

  fields-same : (fs : List Field) → check_fields p k fs ≡ check_fields q k fs
  fields-same [] = refl
  fields-same (bad_key ∷ fs) = refl
  fields-same (field f w c ∷ fs) = rw (value_same (value_for k f) c (value-below k f), fields-same fs)

-- ---- two looks at the required fields of inner messages

module _ (d : ℕ) (p q : MessageKind → List Field → Bool)
    (same : (j : MessageKind) (fs : List Field) → levels j < d → p j fs ≡ q j fs) where
  held_same : (v : ValueKind) (fs : List Field) → Below d v → value_complete p v fs ≡ value_complete q v fs
  held_same value.Any fs h = refl
  held_same value.Number fs h = refl
  held_same value.Text fs h = refl
  held_same (value.Message j) fs h = same j fs h

  all_same : (j : MessageKind) → levels j < d → (ps : List (List ℕ)) → all_complete p j ps ≡ all_complete q j ps
  all_same j h [] = refl
  all_same j h (l ∷ ps) = rw (same j (fields_of l) h, all_same j h ps)

  each_same : (v : ValueKind) (ps : List (List ℕ)) → Below d v → each_complete p v ps ≡ each_complete q v ps
  each_same value.Any ps h = refl
  each_same value.Number ps h = refl
  each_same value.Text ps h = refl
  each_same (value.Message j) ps h = all_same j h ps

  member-same : (v : ValueKind) (f : ℕ) (m : Member) → Below d v → member_complete p v f m ≡ member_complete q v f m
  member-same v f absent h = refl
  member-same v f (holds k fs) h = rw (held_same v fs h)

  field-same : (all : List SchemaField) (r : SchemaField) (fs : List Field) → Below d (field_kind r)
      → field_complete p all r fs ≡ field_complete q all r fs
  field-same all (has f required t) fs h = rw (held_same (value_of t) (merged_fields f fs) h)
  field-same all (has f optional t) fs h = rw (held_same (value_of t) (merged_fields f fs) h)
  field-same all (has f repeated t) fs h = each_same (value_of t) (parts_of f fs) h
  field-same all (has f (oneof g) t) fs h = member-same (value_of t) f (member_of (members_of g all) fs) h

  row_same : (all rs : List SchemaField) (fs : List Field) → AllBelow d rs → all_fields p all rs fs ≡ all_fields q all rs fs
  row_same all [] fs h = refl
  row_same all (r ∷ rs) fs h = rw (field-same all r fs h.0, row_same all rs fs h.1)

-- ---- levels

levels-some : (k : MessageKind) → levels k ≤ 0 → ⊥
levels-some CommandScalableTopicAssignmentUpdate h = omega arith
levels-some CommandScalableTopicSubscribeResponse h = omega arith
levels-some ScalableConsumerAssignment h = omega arith
levels-some ScalableAssignedSegment h = omega arith
levels-some IntRange h = omega arith
levels-some CommandWatchScalableTopicsUpdate h = omega arith
levels-some ScalableTopicsSnapshot h = omega arith
levels-some ScalableTopicsDiff h = omega arith

levels-next : (d : ℕ) (k : MessageKind) (l : List ℕ) → levels k ≤ d → fault_within (suc d) k l ≡ fault_within d k l
levels-next zero k l h = absurd (levels-some k h)
levels-next (suc d) k l h =
    fields-same k (fault_within (suc d)) (fault_within d) (λ j m g. levels-next d j m (omega arith)) (fields_of l)

-- n levels more
pub levels-more : (n : ℕ) (k : MessageKind) (l : List ℕ) → fault_within (n + levels k) k l ≡ fault_within (levels k) k l
levels-more zero k l = let e : zero + levels k ≡ levels k = omega arith in rw e
levels-more (suc n) k l =
    let e : suc n + levels k ≡ suc (n + levels k) = omega arith in
    rw e (levels-next (n + levels k) k l (omega arith) ∙ levels-more n k l)

complete-next : (d : ℕ) (k : MessageKind) (fs : List Field) → levels k ≤ d → complete_within (suc d) k fs ≡ complete_within d k fs
complete-next zero k fs h = absurd (levels-some k h)
complete-next (suc d) k fs h =
    row_same (levels k) (complete_within (suc d)) (complete_within d) (λ j m g. complete-next d j m (omega arith)) (schema k) (schema k) fs
    (schema-below k)

pub complete-more : (n : ℕ) (k : MessageKind) (fs : List Field) → complete_within (n + levels k) k fs ≡ is_complete k fs
unfolding is_complete
complete-more zero k fs = let e : zero + levels k ≡ levels k = omega arith in rw e
complete-more (suc n) k fs =
    let e : suc n + levels k ≡ suc (n + levels k) = omega arith in
    rw e (complete-next (n + levels k) k fs (omega arith) ∙ complete-more n k fs)
