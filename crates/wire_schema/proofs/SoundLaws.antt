-- Laws of messages that have no fault (`Sound`, `first_fault`), by their rows of fields.
--
-- In order: a range (`range-sound`); the two messages that hold an assignment behind a number (`update-row`, `response-row`).
-- Assumes nothing.
use Rattle.std.specs.Prelude.{Ok}
use Prim.Native.Nat.{ℕ, zero, suc}
use mathlib.Core.Path.{◌≡◌, refl, ap}
use mathlib.Core.List.{List, [], ◌∷◌, append-nil}
use Rattle.wire.specs.declared.WireType.TheVariants as wire
use Rattle.wire.specs.Fields.{number, bytes, field, fields_of}
use Rattle.wire_schema.specs.declared.MessageKind.TheVariants.{CommandScalableTopicAssignmentUpdate, CommandScalableTopicSubscribeResponse}
use Rattle.wire_schema.specs.declared.MessageKind.TheVariants.{ScalableConsumerAssignment, IntRange}
use Rattle.wire_schema.specs.Schema.{value_for}
use Rattle.wire_schema.specs.Required.{complete_within, is_complete}
use Rattle.wire_schema.specs.FirstFault.{check_fields, fault_within, first_fault, Sound}

-- a range, whatever it is nested in
pub range-sound : (d : ℕ) (p : List ℕ) (start end : ℕ)
    → fields_of p ≡ field 1 wire.Varint (number start) ∷ field 2 wire.Varint (number end) ∷ [] → Sound d IntRange p
unfolding value_for
range-sound zero p start end e = record { read = refl; whole = refl }
range-sound (suc d) p start end e =
    record { read = ap (check_fields (fault_within d) IntRange) e; whole = ap (complete_within (suc d) IntRange) e }

-- a message that holds an assignment, behind a number
module _ (m : List ℕ) (v : ℕ) (s : List ℕ) (h : Sound 3 ScalableConsumerAssignment s) where
  pub update-row : fields_of m ≡ field 1 wire.Varint (number v) ∷ field 2 wire.Len (bytes s) ∷ []
      → first_fault CommandScalableTopicAssignmentUpdate m ≡ Ok record {}
  unfolding first_fault is_complete value_for
  update-row e = rw (e, h.read, append-nil (fields_of s), h.whole)

  pub response-row : fields_of m ≡ field 1 wire.Varint (number v) ∷ field 4 wire.Len (bytes s) ∷ []
      → first_fault CommandScalableTopicSubscribeResponse m ≡ Ok record {}
  unfolding first_fault is_complete value_for
  response-row e = rw (e, h.read, append-nil (fields_of s), h.whole)
