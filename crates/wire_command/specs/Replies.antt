-- Public: what a command carries, in numbers, for callers in C.
-- Assumes nothing.
use Rattle.std.specs.Prelude.{[], ◌∷◌, pos, Result, Ok, Err}
use Rattle.export_reply.specs.declared.Reply.{Reply}
use Rattle.export_reply.specs.Replies.{no, found, refused_reply, taken_reply}
use Rattle.wire_command.specs.declared.Command.{Command}
use Rattle.wire_command.specs.declared.Command.TheVariants as command
use Rattle.refusal.specs.declared.Refusal.{Refusal}

-- one of the three messages: the type, where it starts, its length, and the number by which it is routed; else the type, and of one of the three in
-- how many parts its message stands
unfoldable pub command_reply : Result Command Refusal → Reply
command_reply (Ok (command.Response start len id)) = taken_reply found (pos 74 ∷ pos start ∷ pos len ∷ pos id ∷ [])
command_reply (Ok (command.Update start len id)) = taken_reply found (pos 75 ∷ pos start ∷ pos len ∷ pos id ∷ [])
command_reply (Ok (command.Watch start len id)) = taken_reply found (pos 77 ∷ pos start ∷ pos len ∷ pos id ∷ [])
command_reply (Ok (command.Parts t k)) = taken_reply no (t ∷ pos k ∷ [])
command_reply (Ok (command.Other t)) = taken_reply no (t ∷ [])
command_reply (Err x) = refused_reply x
