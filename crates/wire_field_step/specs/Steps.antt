-- Internal: cited by the contracts of helpers alone; whoever reads the claims may skip it.
--
-- What the reader's functions answer at one field.
-- Assumes nothing.
use Rattle.std.specs.Prelude.{ℕ, ◌+◌, cond, List, take, drop, Option, Some, None, Result, Ok, Err}
use Rattle.utf8.specs.Table.{is_utf8}
use Rattle.refusal.specs.declared.Refusal.{Refusal}
use Rattle.refusal.specs.declared.Refusal.TheVariants.{InvalidWireFormat, WrongWireType, InvalidUtf8}
use Rattle.wire.specs.declared.Body.{Body}
use Rattle.wire.specs.declared.Body.TheVariants as body
use Rattle.wire.specs.Field.{body_of}
use Rattle.wire_schema.specs.declared.MessageKind.{MessageKind}
use Rattle.wire_schema.specs.declared.ValueKind.{ValueKind}
use Rattle.wire_schema.specs.declared.ValueKind.TheVariants as value
use Rattle.wire_field_step.specs.declared.Step.{Step}
use Rattle.wire_field_step.specs.declared.Step.TheVariants as step
use Rattle.wire_field_step.specs.declared.FieldStep.{FieldStep}
use Rattle.wire_schema.specs.Schema.{value_for, fits_wire}
use Rattle.wire.specs.declared.WireType.{WireType}

-- a field's key and type: 3, then 4
abbrev pub field_head : MessageKind → Option (ℕ × WireType × ℕ) → Result (ℕ × WireType × ValueKind) Refusal
field_head k (Some (f, w, n)) = cond (fits_wire (value_for k f) w) (Ok (n, w, value_for k f)) (Err WrongWireType)
field_head k None = Err InvalidWireFormat

-- a part of len bytes behind a length of n bytes: 7, or a message to be checked
abbrev pub part_step : ValueKind → (n len : ℕ) (p : List ℕ) → Result Step Refusal
part_step value.Any n len p = Ok (step.Next (n + len))
part_step value.Number n len p = Ok (step.Next (n + len))
part_step value.Text n len p = cond (is_utf8 p) (Ok (step.Next (n + len))) (Err InvalidUtf8)
part_step (value.Message k) n len p = Ok (step.Inner k n len)

-- what stands behind a key: 3, then 7
abbrev pub value_step : ValueKind → Option Body → List ℕ → Result Step Refusal
value_step v (Some (body.Number x n)) l = Ok (step.Next n)
value_step v (Some (body.Fixed n)) l = Ok (step.Next n)
value_step v (Some (body.Part n len)) l = part_step v n len (take len (drop n l))
value_step v None l = Err InvalidWireFormat

abbrev pub refused_with : Refusal → FieldStep
refused_with x = record { size = 0; step = Err x }

-- a field: its key, then what stands behind the key
abbrev pub field_of : Result (ℕ × WireType × ValueKind) Refusal → List ℕ → FieldStep
field_of (Err x) l = refused_with x
field_of (Ok (n, w, v)) l = record { size = n; step = value_step v (body_of w (drop n l)) (drop n l) }
