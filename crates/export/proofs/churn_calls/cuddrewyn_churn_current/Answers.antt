-- `cuddrewyn_churn_current` meets its contract: what the call under it gives, in numbers.
-- Assumes nothing.
use mathlib.Core.Path.{ap, ◌∙◌}
use Rattle.export.specs.Exports.{churn_reply}
use Rattle.export.proofs.churn_calls.cuddrewyn_churn_current.Goals as goal

pub returns : goal.returns
returns c = c.churn_reply.ensures ∙ ap churn_reply c.current.ensures
