-- `cuddrewyn_command` meets its contract: what the call under it gives, in numbers.
-- Assumes nothing.
use mathlib.Core.Path.{ap, ◌∙◌}
use Rattle.wire_command.specs.Replies.{command_reply}
use Rattle.export.proofs.command_calls.cuddrewyn_command.Goals as goal

pub returns : goal.returns
returns c = c.command_reply.ensures ∙ ap command_reply c.read_command.ensures
