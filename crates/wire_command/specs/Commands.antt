-- Public: what a command carries, by the bytes of a BaseCommand: one of the three messages of 01, where it stands, and the number by which it is
-- routed.
--
-- The type says which message a command carries: parts of other fields are passed over. The message has to stand in one part, since the calls that it
-- is handed to take bytes that lie together. Where it is absent, or merged from several parts (02 b), the answer is in how many it stands.
-- Assumes nothing.
use Rattle.std.specs.Prelude.{ℕ, ◌≡◌, cond, List, [], ◌∷◌, eqb, ℤ, pos, negsuc, length, Result, Ok, Err}
use Rattle.wire.specs.Fields.{fields_of}
use Rattle.wire_values.specs.Values.{number_in}
use Rattle.wire_values.specs.Integers.{int32_of}
use Rattle.refusal.specs.Steps.{◌>>◌}
use Rattle.wire_schema.specs.Steps.{refuse_fault}
use Rattle.wire_command.specs.declared.Message.{Message}
use Rattle.wire_command.specs.declared.Message.TheVariants as message
use Rattle.wire_command.specs.declared.Command.{Command}
use Rattle.wire_command.specs.declared.Command.TheVariants as command
use Rattle.wire_command.specs.Shell.{shell_fault}
use Rattle.wire_command.specs.Places.{Place, places_of, part_at}
use Rattle.refusal.specs.declared.Refusal.{Refusal}

-- the message at these places of l: its one part, with the number of its field 1 (consumer_id, request_id or watch_id; 0 where it is absent)
abbrev pub message_by : List ℕ → List Place → Message
message_by l [] = message.Parts 0
message_by l (p ∷ []) = message.At p.start p.length (number_in 1 (fields_of (part_at l p)))
message_by l (p ∷ q ∷ ps) = message.Parts (length (p ∷ q ∷ ps))

-- the message of field n
unfoldable pub message_in : ℕ → List ℕ → Message
message_in n l = message_by l (places_of n l)

abbrev pub answer_for : (ℕ → ℕ → ℕ → Result Command Refusal) → ℤ → Message → Result Command Refusal
answer_for found t (message.At start len id) = found start len id
answer_for found t (message.Parts k) = Ok (command.Parts t k)

-- the command of the type t with a message: one that `post` says may be made of it, or in how many parts it stands
abbrev pub Made : (ℕ → ℕ → ℕ → Command → Type 0) → ℤ → Message → Command → Type 0
Made post t (message.At start len id) c = post start len id c
Made post t (message.Parts k) c = c ≡ command.Parts t k

-- by the type (enum BaseCommand.Type): SCALABLE_TOPIC_SUBSCRIBE_RESPONSE, SCALABLE_TOPIC_ASSIGNMENT_UPDATE, WATCH_SCALABLE_TOPICS_UPDATE, or another
unfoldable pub command_by : ℤ → List ℕ → Result Command Refusal
command_by (negsuc t) l = Ok (command.Other (negsuc t))
command_by (pos t) l =
    cond (eqb t 74) (answer_for (λ x y z. Ok (command.Response x y z)) (pos 74) (message_in 74 l))
    (cond (eqb t 75) (answer_for (λ x y z. Ok (command.Update x y z)) (pos 75) (message_in 75 l))
    (cond (eqb t 77) (answer_for (λ x y z. Ok (command.Watch x y z)) (pos 77) (message_in 77 l)) (Ok (command.Other (pos t)))))

-- what the bytes of a BaseCommand carry
unfoldable pub command_of : List ℕ → Result Command Refusal
command_of l = do
  refuse_fault Err (shell_fault l)  -- 3, 4, 6
  command_by (int32_of (number_in 1 (fields_of l))) l
