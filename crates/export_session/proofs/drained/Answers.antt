-- `drained` meets its contract: what the call under it gives, in numbers.
-- Assumes nothing.
use Rattle.export_session.proofs.LentLaws.{lent-call}
use Rattle.export_session.proofs.drained.Goals as goal

pub returns : goal.returns
returns c =
    lent-call c.args.r c.session_reply.ensures (rw c.record_of.ensures at c.drained-drained.ensures)
