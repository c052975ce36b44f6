-- `cuddrewyn_to_pb` meets its contract: what the call under it gives, in numbers.
-- Assumes nothing.
use Rattle.export.proofs.ExportLaws.{write-call}
use Rattle.export.proofs.list_calls.cuddrewyn_to_pb.Goals as goal

pub returns : goal.returns
returns c = write-call c.write_reply.ensures c.to_pb.ensures
