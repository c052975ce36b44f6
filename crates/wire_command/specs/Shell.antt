-- Public: the outer message of a connection, BaseCommand of PulsarApi.proto, and its first fault.
--
-- Of its fields those that matter here are in the table: the required `type`, and the three messages of 01. All others are unknown fields, which are
-- passed over: "Types 0, 1, 2, 5 of unknown fields are skipped; 3, 4, 6, 7 are broken in any field." The fault is that of the shell alone: a message
-- that stands in a field is passed over unread, since the call that it is handed to looks for its faults (specs/FirstFault of the crate schema). No
-- field of the table holds a text, so there is no 7.
-- Assumes nothing.
use Rattle.std.specs.Prelude.{ℕ, cond, List, [], ◌∷◌, ⊤, Result, Ok, Err}
use Rattle.refusal.specs.declared.Refusal.TheVariants.{InvalidWireFormat, MissingField}
use Rattle.wire.specs.Fields.{Field, bad_key, field, fields_of}
use Rattle.wire_values.specs.Values.{numbers_of, present}
use Rattle.wire_schema.specs.declared.MessageKind.{MessageKind}
use Rattle.wire_schema.specs.declared.MessageKind.TheVariants.{CommandScalableTopicAssignmentUpdate, CommandScalableTopicSubscribeResponse}
use Rattle.wire_schema.specs.declared.MessageKind.TheVariants.{CommandWatchScalableTopicsUpdate}
use Rattle.wire_schema.specs.declared.ValueKind.{ValueKind}
use Rattle.wire_schema.specs.Schema.{required, optional, enumeration, message, SchemaField, has, value_in}
use Rattle.wire_schema.specs.FirstFault.{first, check_field}
use Rattle.refusal.specs.declared.Refusal.{Refusal}

abbrev pub base_command : List SchemaField
base_command =
    has 1 required enumeration  -- type
    ∷ has 74 optional (message CommandScalableTopicSubscribeResponse)  -- scalable_topic_subscribe_response
    ∷ has 75 optional (message CommandScalableTopicAssignmentUpdate)  -- scalable_topic_assignment_update
    ∷ has 77 optional (message CommandWatchScalableTopicsUpdate)  -- watch_scalable_topics_update
    ∷ []

-- what field f of a command holds
unfoldable pub shell_value : ℕ → ValueKind
shell_value f = value_in f base_command

-- a message in a field is not looked at
abbrev pub unread : MessageKind → List ℕ → Result ⊤ Refusal
unread k l = Ok record {}

-- 3 and 4, in byte order: "At one field the order is: its key (3), its type (4), .. then its length or value (3, or 7)"
abbrev pub shell_fields : List Field → Result ⊤ Refusal
shell_fields [] = Ok record {}
shell_fields (bad_key ∷ fs) = Err InvalidWireFormat
shell_fields (field f w c ∷ fs) = first (check_field unread (shell_value f) w c) (shell_fields fs)

-- 6: "Required fields are looked for after merging, when the whole message has been read, so 6 comes after any 3, 4 or 7"
abbrev pub missing_type : List Field → Result ⊤ Refusal
missing_type fs = cond (present (numbers_of 1 fs)) (Ok record {}) (Err MissingField)

-- the first fault of a command's shell, or none
unfoldable pub shell_fault : List ℕ → Result ⊤ Refusal
shell_fault l = first (shell_fields (fields_of l)) (missing_type (fields_of l))
