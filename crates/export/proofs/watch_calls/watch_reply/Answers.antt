-- `watch_reply` meets its contract.
-- Assumes nothing.
use mathlib.Core.Path.{ap, sym, ◌∙◌}
use Rattle.export.specs.Exports.{watch_reply}
use Rattle.export.proofs.watch_calls.watch_reply.Goals as goal

pub returns-in-Ok : goal.returns-in-Ok
unfolding watch_reply
returns-in-Ok c = c.two.ensures ∙ sym (ap watch_reply c.in-Ok.is)

pub returns-in-Err : goal.returns-in-Err
unfolding watch_reply
returns-in-Err c = c.refused.ensures ∙ sym (ap watch_reply c.in-Err.is)
