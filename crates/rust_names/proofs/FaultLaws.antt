-- What holds of the reader's four refusals, 3, 4, 6 and 7, holds of a message's first fault (`fault-if`).
-- Demand 2 of the session and of the watch cite it: the reader's refusals are ours in both.
-- Assumes nothing.
use Rattle.std.specs.Prelude.{⊤, Result, Ok, Err}
use Prim.Native.Nat.{ℕ, zero, suc}
use mathlib.Core.List.{List, [], ◌∷◌}
use Rattle.refusal.specs.declared.Refusal.{Refusal}
use Rattle.refusal.specs.declared.Refusal.TheVariants.{InvalidWireFormat, WrongWireType, MissingField, InvalidUtf8}
use Rattle.utf8.specs.Table.{is_utf8}
use Rattle.wire.specs.declared.WireType.{WireType}
use Rattle.wire.specs.Fields.{Payload, number, bytes, fixed, cut, Field, bad_key, field, fields_of}
use Rattle.wire_schema.specs.declared.MessageKind.{MessageKind}
use Rattle.wire_schema.specs.declared.ValueKind.{ValueKind}
use Rattle.wire_schema.specs.declared.ValueKind.TheVariants as value
use Rattle.wire_schema.specs.Schema.{value_for, fits_wire, levels}
use Rattle.wire_schema.specs.Required.{is_complete}
use Rattle.wire_schema.specs.FirstFault.{first, check_value, check_field, check_fields, fault_within, missing_field, first_fault}
use Rattle.keyed.proofs.KeyedLaws.{choose}

-- P holds of the refusal, if there is one
abbrev pub IfRefused : (Refusal → Type 0) → Result ⊤ Refusal → Type 0
IfRefused P (Ok u) = Unit {0}
IfRefused P (Err x) = P x

module _ (P : Refusal → Type 0) (wire : P InvalidWireFormat) (type : P WrongWireType) (lacks : P MissingField) (text : P InvalidUtf8) where
  first-if : (a b : Result ⊤ Refusal) → IfRefused P a → IfRefused P b → IfRefused P (first a b)
  first-if (Ok u) b p q = q
  first-if (Err x) b p q = p

  module _ (inner : MessageKind → List ℕ → Result ⊤ Refusal) (h : (k : MessageKind) (l : List ℕ) → IfRefused P (inner k l)) where
    value-if : (v : ValueKind) (c : Payload) → IfRefused P (check_value inner v c)
    value-if v cut = wire
    value-if v (number n) = tt
    value-if v fixed = tt
    value-if value.Any (bytes l) = tt
    value-if value.Number (bytes l) = tt
    value-if value.Text (bytes l) = choose (IfRefused P) (is_utf8 l) (λ t. tt) (λ t. text)
    value-if (value.Message k) (bytes l) = h k l

    field-if : (v : ValueKind) (w : WireType) (c : Payload) → IfRefused P (check_field inner v w c)
    field-if v w c = choose (IfRefused P) (fits_wire v w) (λ t. value-if v c) (λ t. type)

    fields-if : (k : MessageKind) (fs : List Field) → IfRefused P (check_fields inner k fs)
    fields-if k [] = tt
    fields-if k (bad_key ∷ fs) = wire
    fields-if k (field f w c ∷ fs) = first-if (check_field inner (value_for k f) w c) _ (field-if (value_for k f) w c) (fields-if k fs)

  within-if : (d : ℕ) (k : MessageKind) (l : List ℕ) → IfRefused P (fault_within d k l)
  within-if zero k l = tt
  within-if (suc d) k l = fields-if (fault_within d) (within-if d) k (fields_of l)

  missing-if : (k : MessageKind) (fs : List Field) → IfRefused P (missing_field k fs)
  missing-if k fs = choose (IfRefused P) (is_complete k fs) (λ t. tt) (λ t. lacks)

  pub fault-if : (k : MessageKind) (l : List ℕ) → IfRefused P (first_fault k l)
  unfolding first_fault
  fault-if k l = first-if (fault_within (levels k) k l) _ (within-if (levels k) k l) (missing-if k (fields_of l))
