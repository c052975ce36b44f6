-- `cuddrewyn_watch` meets its contract: what the call under it gives, in numbers.
-- Assumes nothing.
use Rattle.export.proofs.ExportLaws.{watch-call}
use Rattle.export.proofs.watch_calls.cuddrewyn_watch.Goals as goal

pub returns : goal.returns
returns c = watch-call c.watch_reply.ensures c.handle_update.ensures
