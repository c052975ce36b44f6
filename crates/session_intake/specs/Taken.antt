-- Internal: cited by the contracts of helpers alone; whoever reads the claims may skip it.
--
-- What is told of the assignment in a session's message, and where it stands then.
-- Assumes nothing.
use Rattle.std.specs.Prelude.{ℕ, ◌-◌, ◌≤◌, ◌≡◌, cond, List, [], ◌∷◌, ◌⊎◌, length, take, drop, eqb, Option, Some, None, Result, Ok, Err}
use Rattle.wire.specs.declared.WireType.TheVariants as type
use Rattle.wire.specs.Fields.{number, bytes, field, fields_of}
use Rattle.wire_schema.specs.declared.MessageKind.{MessageKind}
use Rattle.wire_schema.specs.declared.MessageKind.TheVariants.{CommandScalableTopicAssignmentUpdate, CommandScalableTopicSubscribeResponse}
use Rattle.wire_schema.specs.FirstFault.{first_fault}
use Rattle.wire_values.specs.Values.{merged_fields}
use Rattle.wire_readers.specs.Messages as wire
use Rattle.packed.specs.Assignment.{decode_assignment}
use Rattle.intake_content.specs.Content.{Content, refused, taken, content_of}
use Rattle.session.specs.Store.{slot}
use Rattle.session.specs.Identity.{identity_topic}
use Rattle.session_store.specs.Scratch.{Scratch}
use Rattle.refusal.specs.declared.Refusal.{Refusal}

-- the field that holds the assignment: 2 in an update, 4 in a response
abbrev pub AssignmentField : ℕ → Type 0
AssignmentField n = (n ≡ 2) ⊎ (n ≡ 4)

abbrev pub message_with : ℕ → MessageKind
message_with n = cond (eqb n 2) CommandScalableTopicAssignmentUpdate CommandScalableTopicSubscribeResponse

-- what the assignment in field n comes to below the store's topic
abbrev pub content_in : (store : List ℕ) (n : ℕ) (m : List ℕ) → Content
content_in store n m = content_of (identity_topic (slot store 0)) (wire.read_assignment (merged_fields n (fields_of m)))

-- the topic of a store lies in it from the place 7 on
pub record TopicEnd (store : List ℕ) (end : ℕ) : Type 0 where
  pub ordered : 7 ≤ end
  pub within : end ≤ length store
  pub is : take (end - 7) (drop 7 store) ≡ identity_topic (slot store 0)

-- ---- an answer of the intake, with the buffer b

abbrev pub content_from : Result ℕ Refusal → List ℕ → Content
content_from (Ok n) b = taken (decode_assignment b)
content_from (Err x) b = refused x

-- what was taken stands at the buffer's front
abbrev pub Ready : Result ℕ Refusal → List ℕ → Type 0
Ready (Ok n) b = Scratch b n
Ready (Err x) b = Unit {0}

-- it says what c is
pub record Answers (x : Result ℕ Refusal) (b : List ℕ) (c : Content) : Type 0 where
  pub is : c ≡ content_from x b
  pub ready : Ready x b

-- ---- a message in its usual form

-- the message is valid, has those two fields and no other, and its assignment stands in the buffer b
pub record OrderedMessageTaken (store m : List ℕ) (n head size : ℕ) (b : List ℕ) : Type 0 where
  pub valid : first_fault (message_with n) m ≡ Ok record {}
  pub part : List ℕ
  pub fields : fields_of m ≡ field 1 type.Varint (number head) ∷ field n type.Len (bytes part) ∷ []
  pub answers : Answers (Ok size) b (content_in store n m)

abbrev pub OrderedMessageIs : (store m : List ℕ) (n : ℕ) → Option (ℕ × ℕ) → (b : List ℕ) → Type 0
OrderedMessageIs store m n (Some (head, size)) b = OrderedMessageTaken store m n head size b
OrderedMessageIs store m n None b = Unit {0}
