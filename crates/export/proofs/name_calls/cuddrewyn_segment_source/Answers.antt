-- `cuddrewyn_segment_source` meets its contract.
-- Assumes nothing.
use mathlib.Core.Path.{ap, sym, ◌∙◌}
use Rattle.export.specs.Exports.{source_reply}
use Rattle.export.proofs.name_calls.cuddrewyn_segment_source.Goals as goal

pub returns-in-Ok : goal.returns-in-Ok
unfolding source_reply
returns-in-Ok c =
    let k = c in
    c.two.ensures ∙ ap source_reply (sym k.in-Ok.is ∙ k.segment_source.ensures)

pub returns-in-Err : goal.returns-in-Err
unfolding source_reply
returns-in-Err c =
    let k = c in
    c.refused.ensures ∙ ap source_reply (sym k.in-Err.is ∙ k.segment_source.ensures)
