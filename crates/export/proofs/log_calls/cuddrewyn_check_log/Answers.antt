-- `cuddrewyn_check_log` meets its contract: what the call under it gives, in numbers.
-- Assumes nothing.
use Rattle.export.proofs.ExportLaws.{log-call}
use Rattle.export.proofs.log_calls.cuddrewyn_check_log.Goals as goal

pub returns : goal.returns
returns c = log-call c.check.result c.check.ensures c.answered_reply.ensures
