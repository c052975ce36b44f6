-- `churn_reply` meets its contract.
-- Assumes nothing.
use mathlib.Core.Path.{sym, ap, ◌∙◌}
use Rattle.export.specs.Exports.{churn_reply}
use Rattle.export.proofs.churn_calls.churn_reply.Goals as goal

pub returns-in-Ok : goal.returns-in-Ok
unfolding churn_reply
returns-in-Ok c = c.two.ensures ∙ sym (ap churn_reply c.in-Ok.is)

pub returns-in-Err : goal.returns-in-Err
unfolding churn_reply
returns-in-Err c = c.refused.ensures ∙ sym (ap churn_reply c.in-Err.is)
