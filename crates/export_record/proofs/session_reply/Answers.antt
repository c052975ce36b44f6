-- `session_reply` meets its contract.
-- Assumes nothing.
use Rattle.export_record.proofs.session_reply.Goals as goal

pub returns : goal.returns
returns c = cc
