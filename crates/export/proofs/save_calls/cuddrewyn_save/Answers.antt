-- `cuddrewyn_save` meets its contract: what the call under it gives, in numbers.
-- Assumes nothing.
use Rattle.export.proofs.ExportLaws.{write-call}
use Rattle.export.proofs.save_calls.cuddrewyn_save.Goals as goal

pub returns : goal.returns
returns c =
    let s = c in
    write-call c.write_reply.ensures (rw s.record_of.ensures at s.save.ensures)
