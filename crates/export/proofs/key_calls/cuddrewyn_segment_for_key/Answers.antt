-- `cuddrewyn_segment_for_key` meets its contract: what the call under it gives, in numbers.
-- Assumes nothing.
use Rattle.std.specs.Prelude.{Ok}
use mathlib.Core.Path.{ap, sym, ◌∙◌}
use Rattle.export.specs.Exports.{segment_reply}
use Rattle.export.proofs.key_calls.cuddrewyn_segment_for_key.Goals as goal

pub returns-in-Ok-Some : goal.returns-in-Ok-Some
unfolding segment_reply
returns-in-Ok-Some c = let k = c in c.one.ensures ∙ ap segment_reply (sym (k.in-Ok-Some.is ∙ ap Ok k.in-Ok-Some.field-0-is) ∙ k.segment_for_key.ensures)

pub returns-in-Ok-None : goal.returns-in-Ok-None
unfolding segment_reply
returns-in-Ok-None c = let k = c in c.plain.ensures ∙ ap segment_reply (sym (k.in-Ok-None.is ∙ ap Ok k.in-Ok-None.field-0-is) ∙ k.segment_for_key.ensures)

pub returns-in-Err : goal.returns-in-Err
unfolding segment_reply
returns-in-Err c = let k = c in c.refused.ensures ∙ ap segment_reply (sym k.in-Err.is ∙ k.segment_for_key.ensures)
