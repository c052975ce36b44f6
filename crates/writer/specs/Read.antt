-- Public: "so that what is written can be read" (02 e): the message that the writer wrote, carried by an update or a
-- response, has no fault and comes to the assignment that was lent. Proved in proofs/WrittenReads.antt.
-- Assumes nothing.
use Rattle.std.specs.Prelude.{ℕ, ◌^◌, ◌<◌, ◌≡◌, List, length, take, Ok}
use Rattle.slice.specs.Bytes.{Bytes}
use Rattle.wire_schema.specs.declared.MessageKind.TheVariants.{CommandScalableTopicAssignmentUpdate, CommandScalableTopicSubscribeResponse}
use Rattle.wire_schema.specs.FirstFault.{first_fault}
use Rattle.wire_readers.specs.Messages.{update_of, response_of}
use Rattle.packed.specs.Assignment.{ConsumerAssignment, decode_assignment}
use Rattle.intake_content.specs.Content.{taken, content_of}
use Rattle.writer_message.specs.Message.{update_message, response_message}
use Rattle.writer.specs.Write.{write_outcome}

-- the message reads as the assignment a, by a session whose topic is the parent
pub record Reads (parent message : List ℕ) (a : ConsumerAssignment) : Type 0 where
  pub update-valid : (consumer : ℕ) → consumer < 2 ^ 64
      → first_fault CommandScalableTopicAssignmentUpdate (update_message consumer message) ≡ Ok record {}
  pub update-taken : (consumer : ℕ) → consumer < 2 ^ 64 → content_of parent (update_of (update_message consumer message)).assignment ≡ taken a
  pub response-valid : (request : ℕ) → request < 2 ^ 64
      → first_fault CommandScalableTopicSubscribeResponse (response_message request message) ≡ Ok record {}
  pub response-taken : (request : ℕ) → request < 2 ^ 64 → content_of parent (response_of (response_message request message)).assignment ≡ taken a

-- of the bytes s, into an output that has fewer than 2 ^ 64 bytes, as every slice has
abbrev pub WrittenReads : Type 0
WrittenReads =
    (s parent out : List ℕ) (n : ℕ) → Bytes s → length out < 2 ^ 64 → (write_outcome s parent out).answer ≡ Ok n
    → Reads parent (take n (write_outcome s parent out).out) (decode_assignment s)
