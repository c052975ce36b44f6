-- Public: the first fault of a message (01, Fields; 02 b), over its row of fields: faults in byte order, then what is
-- missing.
--
-- 3, 4 and 7 are found in byte order, also in a value that a later one overrides: "At one field the order is: its key (3), its type (4), .. then its length or
-- value (3, or 7)." A field may come again. "Required fields are looked for after merging, when the whole message has been read, so 6 comes after any 3, 4 or 7."
-- `first_fault` is the name that contracts cite.
-- Assumes nothing.
use Rattle.std.specs.Prelude.{ℕ, zero, suc, ◌≡◌, true, cond, List, [], ◌∷◌, ⊤, Result, Ok, Err}
use Rattle.utf8.specs.Table.{is_utf8}
use Rattle.refusal.specs.declared.Refusal.TheVariants.{InvalidWireFormat, WrongWireType, MissingField, InvalidUtf8}
use Rattle.wire.specs.declared.WireType.{WireType}
use Rattle.wire.specs.Fields.{Payload, number, bytes, fixed, cut, Field, bad_key, field, fields_of}
use Rattle.wire_schema.specs.declared.MessageKind.{MessageKind}
use Rattle.wire_schema.specs.declared.ValueKind.{ValueKind}
use Rattle.wire_schema.specs.declared.ValueKind.TheVariants as value
use Rattle.wire_schema.specs.Schema.{value_for, fits_wire, levels}
use Rattle.wire_schema.specs.Required.{complete_within, is_complete}
use Rattle.refusal.specs.declared.Refusal.{Refusal}

-- the first fault of two
abbrev pub first : Result ⊤ Refusal → Result ⊤ Refusal → Result ⊤ Refusal
first (Ok u) r = r
first (Err x) r = Err x

-- inner gives the first fault of a message that stands in a field
module _ (inner : MessageKind → List ℕ → Result ⊤ Refusal) where
  -- 3 or 7: a field's length or value
  abbrev pub check_value : ValueKind → Payload → Result ⊤ Refusal
  check_value v cut = Err InvalidWireFormat
  check_value v (number n) = Ok record {}
  check_value v fixed = Ok record {}
  check_value value.Any (bytes l) = Ok record {}
  check_value value.Number (bytes l) = Ok record {}
  check_value value.Text (bytes l) = cond (is_utf8 l) (Ok record {}) (Err InvalidUtf8)
  check_value (value.Message k) (bytes l) = inner k l

  -- 4, then the value
  abbrev pub check_field : ValueKind → WireType → Payload → Result ⊤ Refusal
  check_field v w c = cond (fits_wire v w) (check_value v c) (Err WrongWireType)

  -- the fields in turn
  abbrev pub check_fields : MessageKind → List Field → Result ⊤ Refusal
  check_fields k [] = Ok record {}
  check_fields k (bad_key ∷ fs) = Err InvalidWireFormat
  check_fields k (field f w c ∷ fs) = first (check_field (value_for k f) w c) (check_fields k fs)

-- 3, 4 or 7: the first of a message of a kind, with messages nested at most that deep
abbrev pub fault_within : ℕ → MessageKind → List ℕ → Result ⊤ Refusal
fault_within zero k l = Ok record {}
fault_within (suc d) k l = check_fields (fault_within d) k (fields_of l)

-- 6: a required field is missing in the message as it is when its parts are merged, or in a message in it
abbrev pub missing_field : MessageKind → List Field → Result ⊤ Refusal
missing_field k fs = cond (is_complete k fs) (Ok record {}) (Err MissingField)

-- the first fault of a message of a kind, or none. No message is nested deeper than `levels` says: a larger count gives the same (proofs/Levels).
unfoldable pub first_fault : MessageKind → List ℕ → Result ⊤ Refusal
first_fault k l = first (fault_within (levels k) k l) (missing_field k (fields_of l))

-- a message of a kind, nested in others to a depth, has no fault of its own: no 3, 4 or 7, and by itself no 6
pub record Sound (d : ℕ) (k : MessageKind) (l : List ℕ) : Type 0 where
  pub read : fault_within d k l ≡ Ok record {}
  pub whole : complete_within d k (fields_of l) ≡ true
