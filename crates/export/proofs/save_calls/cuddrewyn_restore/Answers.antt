-- `cuddrewyn_restore` meets its contract: what the call under it gives, in numbers.
-- Assumes nothing.
use Rattle.export.proofs.ExportLaws.{open-call}
use Rattle.export.proofs.save_calls.cuddrewyn_restore.Goals as goal

pub returns : goal.returns
returns c = open-call c.open_reply.ensures c.restore-restored.ensures
