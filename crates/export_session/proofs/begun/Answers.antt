-- `begun` meets its contract: what the call under it gives, in numbers.
-- Assumes nothing.
use mathlib.Core.Path.{ap, ◌∙◌}
use Rattle.export_record.specs.Replies.{changed_reply}
use Rattle.export_session.proofs.begun.Goals as goal

pub returns : goal.returns
returns c =
    c.session_reply.ensures ∙ ap (changed_reply c.args.r) (rw c.record_of.ensures at c.begun-begun.ensures)
