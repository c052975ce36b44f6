-- `cuddrewyn_range_contains` meets its contract.
-- Assumes nothing.
use mathlib.Core.Path.{ap, ◌∙◌}
use Rattle.export.specs.Exports.{answered_reply}
use Rattle.export.proofs.range_calls.cuddrewyn_range_contains.Goals as goal

pub returns : goal.returns
returns c = c.answered_reply.ensures ∙ ap answered_reply c.contains.ensures
