-- Public: how a message's values are read follows from the table of specs/Schema (01, Fields).
--
-- `message_by` reads a message by the table alone: a field's type says what its numbers are (`holding_of`), its label how often it comes. `ReadBySchema` says that
-- the crate `wire_readers` reads no other values: those of an update, a response and a watch update are the ones that the table gives. Its proof is proofs/ScalarLaws.
-- Not here: the topics of a watch update's event, which the crate `watch` reads from its row; which messages are taken at all (specs/FirstFault).
-- Assumes nothing.
use Rattle.std.specs.Prelude.{ℕ, zero, suc, ◌≡◌, cond, List, [], ◌∷◌, eqb, ℤ, Option, Some, None}
use Rattle.wire.specs.Fields.{Field, fields_of}
use Rattle.wire_values.specs.Values.{numbers_of, parts_of, last_of, last_part, join_fields, merged_fields, number_in, Member, member_of}
use Rattle.wire_values.specs.Integers.{uint32_of, int32_of}
use Rattle.wire_readers.specs.declared.IntRange.{IntRange as Range}
use Rattle.wire_readers.specs.Messages.{WireSegment, WireAssignment, WireUpdate, update_of, WireResponse, response_of}
use Rattle.wire_readers.specs.Messages.{WireEvent, none, snapshot, diff, WireWatchUpdate, watch_update_of}
use Rattle.wire_schema.specs.declared.MessageKind.{MessageKind}
use Rattle.wire_schema.specs.declared.MessageKind.TheVariants.{CommandScalableTopicAssignmentUpdate, CommandScalableTopicSubscribeResponse}
use Rattle.wire_schema.specs.declared.MessageKind.TheVariants.{CommandWatchScalableTopicsUpdate, ScalableTopicsSnapshot, ScalableTopicsDiff}
use Rattle.wire_schema.specs.Schema.{required, optional, repeated, oneof, ProtoType, uint64, uint32, int32, enumeration, string, message}
use Rattle.wire_schema.specs.Schema.{SchemaField, has, schema, members_of, levels}

infixr 20 ◌and◌
mutual
  pub data Value : Type 0 where
    absent : Value
    unsigned : ℕ → Value
    signed : ℤ → Value
    text : List ℕ → Value
    -- the values of a message, in the order of its table
    fields : Values → Value
    -- the values of a field that may come again, in the order of the bytes
    entries : Values → Value
    -- a message by its row
    row : MessageKind → List Field → Value

  pub data Values : Type 0 where
    end : Values
    ◌and◌ : Value → Values → Values

abbrev pub each : {A : Type 0} → (A → Value) → List A → Values
each value [] = end
each value (x ∷ l) = value x and each value l

-- ---- read by the table

-- what a field holds: numbers, and what each is by its varint; texts; or messages
pub data Holding : Type 0 where
  numbers : (ℕ → Value) → Holding
  texts : Holding
  messages : MessageKind → Holding

-- "uint32 and int32 keep the low 32 bits, int32 as two's complement. An enumeration reads as int32 and keeps unknown values"
abbrev pub holding_of : ProtoType → Holding
holding_of uint64 = numbers unsigned
holding_of uint32 = numbers (λ v. unsigned (uint32_of v))
holding_of int32 = numbers (λ v. signed (int32_of v))
holding_of enumeration = numbers (λ v. signed (int32_of v))
holding_of string = texts
holding_of (message k) = messages k

-- the last of some numbers
abbrev pub last_value : (ℕ → Value) → Option ℕ → Value
last_value value (Some v) = value v
last_value value None = absent

-- member f of a oneof, where that is the one that a message has; the table has messages alone there
abbrev pub member_value : ℕ → Holding → Member → Value
member_value f h Member.absent = absent
member_value f (numbers value) (Member.holds n fs) = absent
member_value f texts (Member.holds n fs) = absent
member_value f (messages k) (Member.holds n fs) = cond (eqb n f) (row k fs) absent

-- inner reads a message that stands in a field, by its row
module _ (inner : MessageKind → List Field → Value) where
  -- a message in so many parts
  abbrev pub merged_value : MessageKind → List (List ℕ) → Value
  merged_value k [] = absent
  merged_value k (p ∷ ps) = inner k (join_fields (p ∷ ps))

  -- field f of a row, which has to be there: of a number that is missing 0
  abbrev pub required_value : ℕ → List Field → Holding → Value
  required_value f fs (numbers value) = value (number_in f fs)
  required_value f fs texts = text (last_part (parts_of f fs))
  required_value f fs (messages k) = inner k (merged_fields f fs)

  -- which may be absent: a text is empty then
  abbrev pub optional_value : ℕ → List Field → Holding → Value
  optional_value f fs (numbers value) = last_value value (last_of (numbers_of f fs))
  optional_value f fs texts = text (last_part (parts_of f fs))
  optional_value f fs (messages k) = merged_value k (parts_of f fs)

  -- which may come again; the table has no such number
  abbrev pub repeated_value : ℕ → List Field → Holding → Value
  repeated_value f fs (numbers value) = entries (each value (numbers_of f fs))
  repeated_value f fs texts = entries (each text (parts_of f fs))
  repeated_value f fs (messages k) = entries (each (λ p. inner k (fields_of p)) (parts_of f fs))

  -- a table's fields in turn
  module _ (all : List SchemaField) where
    abbrev pub values_by : List SchemaField → List Field → Values
    values_by [] fs = end
    values_by (has f required t ∷ rs) fs = required_value f fs (holding_of t) and values_by rs fs
    values_by (has f optional t ∷ rs) fs = optional_value f fs (holding_of t) and values_by rs fs
    values_by (has f repeated t ∷ rs) fs = repeated_value f fs (holding_of t) and values_by rs fs
    values_by (has f (oneof g) t ∷ rs) fs = member_value f (holding_of t) (member_of (members_of g all) fs) and values_by rs fs

-- a message of a kind, with messages nested at most that deep
abbrev pub message_within : ℕ → MessageKind → List Field → Value
message_within zero k fs = absent
message_within (suc d) k fs = fields (values_by (message_within d) (schema k) (schema k) fs)

abbrev pub message_by : MessageKind → List Field → Value
message_by k fs = message_within (levels k) k fs

-- ---- read by `wire_readers`

abbrev pub range_value : Range → Value
range_value r = fields (signed r.start and signed r.end and end)

abbrev pub segment_value : WireSegment → Value
segment_value s =
    fields
    (unsigned s.segment_id
    and unsigned s.hash_start
    and unsigned s.hash_end
    and text s.segment_topic
    and entries (each range_value s.bucket_ranges)
    and end)

abbrev pub assignment_value : WireAssignment → Value
assignment_value a = fields (unsigned a.layout_epoch and entries (each segment_value a.segments) and end)

abbrev pub error_value : Option ℤ → Value
error_value (Some v) = signed v
error_value None = absent

abbrev pub update_value : WireUpdate → Value
update_value u = fields (unsigned u.consumer_id and assignment_value u.assignment and end)

abbrev pub response_value : WireResponse → Value
response_value r =
    fields
    (unsigned r.request_id
    and error_value r.error
    and text r.message
    and cond r.has_assignment (assignment_value r.assignment) absent
    and end)

-- the members of the oneof `event`
abbrev pub snapshot_value : WireEvent → Value
snapshot_value none = absent
snapshot_value (snapshot fs) = row ScalableTopicsSnapshot fs
snapshot_value (diff fs) = absent

abbrev pub diff_value : WireEvent → Value
diff_value none = absent
diff_value (snapshot fs) = absent
diff_value (diff fs) = row ScalableTopicsDiff fs

abbrev pub watch_update_value : WireWatchUpdate → Value
watch_update_value w =
    fields
    (unsigned w.watch_id
    and snapshot_value w.event
    and diff_value w.event
    and error_value w.error
    and text w.message
    and end)

-- ---- both are the same

pub record ReadBySchema : Type 0 where
  pub updates : (m : List ℕ) → update_value (update_of m) ≡ message_by CommandScalableTopicAssignmentUpdate (fields_of m)
  pub responses : (m : List ℕ) → response_value (response_of m) ≡ message_by CommandScalableTopicSubscribeResponse (fields_of m)
  pub watch-updates : (m : List ℕ) → watch_update_value (watch_update_of m) ≡ message_by CommandWatchScalableTopicsUpdate (fields_of m)
