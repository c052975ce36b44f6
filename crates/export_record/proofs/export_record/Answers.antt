-- `export_record` meets its contract.
-- Assumes nothing.
use Rattle.export_record.specs.Replies.{export_record}
use Rattle.export_record.proofs.export_record.Goals as goal

pub returns : goal.returns
unfolding export_record
returns c = cc
