-- `cuddrewyn_range_len` meets its contract.
-- Assumes nothing.
use mathlib.Core.Path.{ap, sym, ◌∙◌}
use Rattle.export.specs.Exports.{length_reply}
use Rattle.export.proofs.range_calls.cuddrewyn_range_len.Goals as goal

pub returns-in-Ok : goal.returns-in-Ok
unfolding length_reply
returns-in-Ok c = c.one.ensures ∙ ap length_reply (sym c.in-Ok.is ∙ c.len.ensures)

pub returns-in-Err : goal.returns-in-Err
unfolding length_reply
returns-in-Err c = c.refused.ensures ∙ ap length_reply (sym c.in-Err.is ∙ c.len.ensures)
