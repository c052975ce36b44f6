-- Public: the fields of the eight messages, as PulsarApi.proto has them. Each row: the field's number, its label and
-- its type; its name stands behind it.
-- Assumes nothing.
use Rattle.std.specs.Prelude.{ℕ, Bool, true, false, cond, List, [], ◌∷◌, eqb}
use Rattle.wire.specs.declared.WireType.{WireType}
use Rattle.wire.specs.declared.WireType.TheVariants as wire
use Rattle.wire_schema.specs.declared.MessageKind.{MessageKind}
use Rattle.wire_schema.specs.declared.MessageKind.TheVariants.{CommandScalableTopicAssignmentUpdate, CommandScalableTopicSubscribeResponse}
use Rattle.wire_schema.specs.declared.MessageKind.TheVariants.{ScalableConsumerAssignment, ScalableAssignedSegment, IntRange}
use Rattle.wire_schema.specs.declared.MessageKind.TheVariants.{CommandWatchScalableTopicsUpdate, ScalableTopicsSnapshot, ScalableTopicsDiff}
use Rattle.wire_schema.specs.declared.ValueKind.{ValueKind}
use Rattle.wire_schema.specs.declared.ValueKind.TheVariants as value

-- a field's label; the members of a oneof share its number
pub data Label : Type 0 where
  required optional repeated : Label
  oneof : ℕ → Label

pub data ProtoType : Type 0 where
  uint64 uint32 int32 enumeration string : ProtoType
  message : MessageKind → ProtoType

pub data SchemaField : Type 0 where
  has : ℕ → Label → ProtoType → SchemaField

abbrev pub schema : MessageKind → List SchemaField
schema CommandScalableTopicAssignmentUpdate =
    has 1 required uint64  -- consumer_id
    ∷ has 2 required (message ScalableConsumerAssignment)  -- assignment
    ∷ []
schema CommandScalableTopicSubscribeResponse =
    has 1 required uint64  -- request_id
    ∷ has 2 optional enumeration  -- error
    ∷ has 3 optional string  -- message
    ∷ has 4 optional (message ScalableConsumerAssignment)  -- assignment
    ∷ []
schema ScalableConsumerAssignment =
    has 1 required uint64  -- layout_epoch
    ∷ has 2 repeated (message ScalableAssignedSegment)  -- segments
    ∷ []
schema ScalableAssignedSegment =
    has 1 required uint64  -- segment_id
    ∷ has 2 required uint32  -- hash_start
    ∷ has 3 required uint32  -- hash_end
    ∷ has 4 required string  -- segment_topic
    ∷ has 5 repeated (message IntRange)  -- bucket_ranges
    ∷ []
schema IntRange =
    has 1 required int32  -- start
    ∷ has 2 required int32  -- end
    ∷ []
schema CommandWatchScalableTopicsUpdate =
    has 1 required uint64  -- watch_id
    ∷ has 2 (oneof 2) (message ScalableTopicsSnapshot)  -- snapshot
    ∷ has 3 (oneof 2) (message ScalableTopicsDiff)  -- diff
    ∷ has 4 optional enumeration  -- error
    ∷ has 5 optional string  -- message
    ∷ []
schema ScalableTopicsSnapshot =
    has 1 repeated string  -- topics
    ∷ []
schema ScalableTopicsDiff =
    has 1 repeated string  -- added
    ∷ has 2 repeated string  -- removed
    ∷ []

-- ---- what a field holds

abbrev pub value_of : ProtoType → ValueKind
value_of uint64 = value.Number
value_of uint32 = value.Number
value_of int32 = value.Number
value_of enumeration = value.Number
value_of string = value.Text
value_of (message k) = value.Message k

abbrev pub field_number : SchemaField → ℕ
field_number (has f a t) = f

abbrev pub field_kind : SchemaField → ValueKind
field_kind (has f a t) = value_of t

-- an unknown field has any type
abbrev pub value_in : ℕ → List SchemaField → ValueKind
value_in f [] = value.Any
value_in f (r ∷ rs) = cond (eqb f (field_number r)) (field_kind r) (value_in f rs)

-- what field f of a message holds
unfoldable pub value_for : MessageKind → ℕ → ValueKind
value_for k f = value_in f (schema k)

-- the fields that are members of oneof g
abbrev pub members_of : ℕ → List SchemaField → List ℕ
members_of g [] = []
members_of g (has f required t ∷ rs) = members_of g rs
members_of g (has f optional t ∷ rs) = members_of g rs
members_of g (has f repeated t ∷ rs) = members_of g rs
members_of g (has f (oneof h) t ∷ rs) = cond (eqb g h) (f ∷ members_of g rs) (members_of g rs)

-- "VARINT for numbers, LEN for texts and messages"; an unknown field fits any
abbrev pub fits_wire : ValueKind → WireType → Bool
fits_wire value.Any w = true
fits_wire value.Number wire.Varint = true
fits_wire value.Number wire.I64 = false
fits_wire value.Number wire.Len = false
fits_wire value.Number wire.I32 = false
fits_wire value.Text wire.Varint = false
fits_wire value.Text wire.I64 = false
fits_wire value.Text wire.Len = true
fits_wire value.Text wire.I32 = false
fits_wire (value.Message k) wire.Varint = false
fits_wire (value.Message k) wire.I64 = false
fits_wire (value.Message k) wire.Len = true
fits_wire (value.Message k) wire.I32 = false

-- how deep messages are nested in one, itself counted
abbrev pub levels : MessageKind → ℕ
levels CommandScalableTopicAssignmentUpdate = 4
levels CommandScalableTopicSubscribeResponse = 4
levels ScalableConsumerAssignment = 3
levels ScalableAssignedSegment = 2
levels IntRange = 1
levels CommandWatchScalableTopicsUpdate = 2
levels ScalableTopicsSnapshot = 1
levels ScalableTopicsDiff = 1
