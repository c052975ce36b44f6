-- `cuddrewyn_churn_push` meets its contract: what the call under it gives, in numbers.
-- Assumes nothing.
use Rattle.export.proofs.ExportLaws.{window-call}
use Rattle.export.proofs.churn_calls.cuddrewyn_churn_push.Goals as goal

pub returns : goal.returns
returns c = window-call c.churn_reply.ensures c.push.ensures
