-- `cuddrewyn_open` meets its contract: what the call under it gives, in numbers.
-- Assumes nothing.
use mir.Facts.{to_z-of_z}
use Rattle.export.proofs.ExportLaws.{open-call}
use Rattle.export.proofs.session_calls.cuddrewyn_open.Goals as goal

pub returns : goal.returns
returns c =
    open-call c.open_reply.ensures
    (rw (c.from_pb_i32-kind.ensures, to_z-of_z c.ranges.kind) at c.open-opened.ensures)
