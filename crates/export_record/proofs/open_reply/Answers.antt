-- `open_reply` meets its contract.
-- Assumes nothing.
use Rattle.export_record.proofs.open_reply.Goals as goal

pub returns : goal.returns
returns c = cc
