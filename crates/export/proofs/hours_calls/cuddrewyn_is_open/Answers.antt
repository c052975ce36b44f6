-- `cuddrewyn_is_open` meets its contract: what the call under it gives, in numbers.
-- Assumes nothing.
use mathlib.Core.Path.{ap, ◌∙◌}
use Rattle.export.specs.Exports.{hours_reply}
use Rattle.export.proofs.ExportLaws.{answered-hours}
use Rattle.export.proofs.hours_calls.cuddrewyn_is_open.Goals as goal

pub returns : goal.returns
returns c = c.answered_reply.ensures ∙ answered-hours c.is_open.result ∙ ap hours_reply c.is_open.ensures
