-- Public: required fields: "Required fields are looked for after merging, when the whole message has been read" (02 b).
--
-- A message is given by its row of fields. A singular message that comes several times is one message, whose row is that of all its parts (`merged_fields` of
-- the crate values); of a oneof the last member counts (`member_of`); a message that may come again is looked at by itself, each time. `isComplete` is the
-- name that contracts cite.
-- Assumes nothing.
use Rattle.std.specs.Prelude.{ℕ, zero, suc, Bool, true, cond, not, ◌&&◌, ◌||◌, List, [], ◌∷◌, eqb}
use Rattle.wire.specs.Fields.{Field, fields_of}
use Rattle.wire_values.specs.Values.{numbers_of, parts_of, present, merged_fields, Member, absent, holds, member_of}
use Rattle.wire_schema.specs.declared.MessageKind.{MessageKind}
use Rattle.wire_schema.specs.declared.ValueKind.{ValueKind}
use Rattle.wire_schema.specs.declared.ValueKind.TheVariants as value
use Rattle.wire_schema.specs.Schema.{required, optional, repeated, oneof, SchemaField, has, value_of, schema, members_of, levels}

-- field f, which holds such a value, is there
abbrev pub is_there : ValueKind → ℕ → List Field → Bool
is_there value.Any f fs = true
is_there value.Number f fs = present (numbers_of f fs)
is_there value.Text f fs = present (parts_of f fs)
is_there (value.Message k) f fs = present (parts_of f fs)

-- inner says whether a message has its required fields, and so has each message in it
module _ (inner : MessageKind → List Field → Bool) where
  -- the message that a field holds, by its row; numbers and texts have no fields
  abbrev pub value_complete : ValueKind → List Field → Bool
  value_complete value.Any fs = true
  value_complete value.Number fs = true
  value_complete value.Text fs = true
  value_complete (value.Message k) fs = inner k fs

  -- the messages that a field holds which may come again, each by itself
  abbrev pub all_complete : MessageKind → List (List ℕ) → Bool
  all_complete k [] = true
  all_complete k (p ∷ ps) = inner k (fields_of p) && all_complete k ps

  abbrev pub each_complete : ValueKind → List (List ℕ) → Bool
  each_complete value.Any ps = true
  each_complete value.Number ps = true
  each_complete value.Text ps = true
  each_complete (value.Message k) ps = all_complete k ps

  -- the member f of a oneof, where that is the one
  abbrev pub member_complete : ValueKind → ℕ → Member → Bool
  member_complete v f absent = true
  member_complete v f (holds k fs) = cond (eqb k f) (value_complete v fs) true

  -- a required field is there; a message that is there has its own required fields
  module _ (all : List SchemaField) where
    abbrev pub field_complete : SchemaField → List Field → Bool
    field_complete (has f required t) fs = value_complete (value_of t) (merged_fields f fs) && is_there (value_of t) f fs
    field_complete (has f optional t) fs = value_complete (value_of t) (merged_fields f fs) || not (is_there (value_of t) f fs)
    field_complete (has f repeated t) fs = each_complete (value_of t) (parts_of f fs)
    field_complete (has f (oneof g) t) fs = member_complete (value_of t) f (member_of (members_of g all) fs)

    abbrev pub all_fields : List SchemaField → List Field → Bool
    all_fields [] fs = true
    all_fields (r ∷ rs) fs = field_complete r fs && all_fields rs fs

-- a message of a kind, with messages nested at most that deep
abbrev pub complete_within : ℕ → MessageKind → List Field → Bool
complete_within zero k fs = true
complete_within (suc d) k fs = all_fields (complete_within d) (schema k) (schema k) fs

-- a message of a kind, by its row, has its required fields, and so has each message in it
unfoldable pub is_complete : MessageKind → List Field → Bool
is_complete k fs = complete_within (levels k) k fs
