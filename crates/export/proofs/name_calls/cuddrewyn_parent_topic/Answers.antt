-- `cuddrewyn_parent_topic` meets its contract: what the call under it gives, in numbers.
-- Assumes nothing.
use Rattle.export.proofs.ExportLaws.{name-call}
use Rattle.export.proofs.name_calls.cuddrewyn_parent_topic.Goals as goal

pub returns : goal.returns
returns c = name-call c.write_reply.ensures c.parent_topic.ensures
