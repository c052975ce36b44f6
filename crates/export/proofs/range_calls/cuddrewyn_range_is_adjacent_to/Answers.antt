-- `cuddrewyn_range_is_adjacent_to` meets its contract.
-- Assumes nothing.
use mathlib.Core.Path.{ap, ◌∙◌}
use Rattle.export.specs.Exports.{answered_reply}
use Rattle.export.proofs.range_calls.cuddrewyn_range_is_adjacent_to.Goals as goal

pub returns : goal.returns
returns c = c.answered_reply.ensures ∙ ap answered_reply c.is_adjacent_to.ensures
