-- Laws of `check_fields` over a row of fields that a part holds: the field at the front decides, or the fields behind it do.
--
-- In order: no field (`fault-end`); a field whose type fits (`fault-typed`); each fault of the field at the front, in the order of 01
-- (`fault-bad-key`, `fault-type`); a field whose type fits, by what stands behind its key (`fault-cut`, `fault-number`, `fault-fixed`, `fault-part`).
-- Not here: the same at a place of a slice (ScanLaws of the crate messages).
-- Assumes nothing.
use Rattle.std.specs.Prelude.{⊤, Some, None, Result, Ok, Err}
use Prim.Native.Nat.{ℕ, ◌+◌, ◌≤◌, ◌<◌}
use mathlib.Core.Path.{◌≡◌, ap, ◌∙◌}
use mathlib.Core.Bool.{true, false}
use mathlib.Core.List.{List, [], ◌∷◌}
use lib.ListN.{length, take, drop}
use Rattle.refusal.specs.declared.Refusal.TheVariants.{InvalidWireFormat, WrongWireType}
use Rattle.wire.specs.declared.WireType.{WireType}
use Rattle.wire.specs.declared.Body.TheVariants as body
use Rattle.wire.specs.Field.{key_read, body_of}
use Rattle.wire.specs.Fields.{Payload, number, bytes, fixed, cut, Field, field, fields_of}
use Rattle.wire.proofs.FieldsLaws.{fields-nil, fields-step, fields-bad-key, fields-cut, fields-number, fields-fixed, fields-part}
use Rattle.wire_schema.specs.declared.MessageKind.{MessageKind}
use Rattle.wire_schema.specs.Schema.{value_for, fits_wire}
use Rattle.wire_schema.specs.FirstFault.{first, check_value, check_fields}
use Rattle.refusal.specs.declared.Refusal.{Refusal}

module _ (inner : MessageKind → List ℕ → Result ⊤ Refusal) (k : MessageKind) (l : List ℕ) where
  -- the first fault of the fields of l
  abbrev pub fault_of : Result ⊤ Refusal
  fault_of = check_fields inner k (fields_of l)

  pub fault-end : length l ≤ 0 → fault_of ≡ Ok record {}
  fault-end h = ap (check_fields inner k) (fields-nil l h)

  -- a field whose type fits: its value's fault, or that of the fields behind it
  pub fault-typed : (f : ℕ) (w : WireType) → fits_wire (value_for k f) w ≡ true
      → (c : Payload) (fs : List Field) → fields_of l ≡ field f w c ∷ fs
      → fault_of ≡ first (check_value inner (value_for k f) c) (check_fields inner k fs)
  fault-typed f w g c fs q = ap (check_fields inner k) q ∙ rw g

module _ (inner : MessageKind → List ℕ → Result ⊤ Refusal) (k : MessageKind) (l : List ℕ) (h : 0 < length l) where
  pub fault-bad-key : key_read l ≡ None → fault_of inner k l ≡ Err InvalidWireFormat
  fault-bad-key e = ap (check_fields inner k) (fields-bad-key l h e)

  module _ (f : ℕ) (w : WireType) (n : ℕ) (e : key_read l ≡ Some (f, w, n)) where
    pub fault-type : fits_wire (value_for k f) w ≡ false → fault_of inner k l ≡ Err WrongWireType
    fault-type g = ap (check_fields inner k) (fields-step l h) ∙ rw (e, g)

    module _ (g : fits_wire (value_for k f) w ≡ true) where
      pub fault-cut : body_of w (drop n l) ≡ None → fault_of inner k l ≡ Err InvalidWireFormat
      fault-cut q = fault-typed inner k l f w g cut [] (fields-cut l h f w n e q)

      pub fault-number : (v m : ℕ) → body_of w (drop n l) ≡ Some (body.Number v m) → fault_of inner k l ≡ fault_of inner k (drop (n + m) l)
      fault-number v m q = fault-typed inner k l f w g (number v) (fields_of (drop (n + m) l)) (fields-number l h f w n e v m q)

      pub fault-fixed : (m : ℕ) → body_of w (drop n l) ≡ Some (body.Fixed m) → fault_of inner k l ≡ fault_of inner k (drop (n + m) l)
      fault-fixed m q = fault-typed inner k l f w g fixed (fields_of (drop (n + m) l)) (fields-fixed l h f w n e m q)

      pub fault-part : (m len : ℕ) → body_of w (drop n l) ≡ Some (body.Part m len)
          → fault_of inner k l
          ≡ first (check_value inner (value_for k f) (bytes (take len (drop m (drop n l))))) (fault_of inner k (drop (n + (m + len)) l))
      fault-part m len q =
          fault-typed inner k l f w g (bytes (take len (drop m (drop n l)))) (fields_of (drop (n + (m + len)) l))
          (fields-part l h f w n e m len q)
