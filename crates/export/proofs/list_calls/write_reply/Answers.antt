-- `write_reply` meets its contract.
-- Assumes nothing.
use mathlib.Core.Path.{ap, sym, ◌∙◌}
use Rattle.export.specs.Exports.{write_reply}
use Rattle.export.proofs.list_calls.write_reply.Goals as goal

pub returns-in-Ok : goal.returns-in-Ok
unfolding write_reply
returns-in-Ok c = c.one.ensures ∙ sym (ap write_reply c.in-Ok.is)

pub returns-in-Err : goal.returns-in-Err
unfolding write_reply
returns-in-Err c = c.refused.ensures ∙ sym (ap write_reply c.in-Err.is)
