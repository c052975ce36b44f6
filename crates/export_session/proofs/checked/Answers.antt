-- `checked` meets its contract.
-- Assumes nothing.
use mathlib.Core.Path.{ap, ◌∙◌}
use Rattle.export_record.specs.Replies.{answer_reply}
use Rattle.export_session.proofs.checked.Goals as goal

pub returns : goal.returns
returns c =
    c.answer_reply.ensures ∙ ap answer_reply (rw c.record_of.ensures at c.check.ensures)
