-- `answered_reply` meets its contract.
-- Assumes nothing.
use mathlib.Core.Path.{ap, sym, ◌∙◌}
use Rattle.export.specs.Exports.{answered_reply}
use Rattle.export.proofs.range_calls.answered_reply.Goals as goal

pub returns-in-Ok : goal.returns-in-Ok
unfolding answered_reply
returns-in-Ok c = c.test.ensures ∙ sym (ap answered_reply c.in-Ok.is)

pub returns-in-Err : goal.returns-in-Err
unfolding answered_reply
returns-in-Err c = c.refused.ensures ∙ sym (ap answered_reply c.in-Err.is)
