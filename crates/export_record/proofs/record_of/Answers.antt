-- `record_of` meets its contract.
-- Assumes nothing.
use Rattle.export_record.specs.Replies.{record_of}
use Rattle.export_record.proofs.record_of.Goals as goal

pub returns : goal.returns
unfolding record_of
returns c = cc
