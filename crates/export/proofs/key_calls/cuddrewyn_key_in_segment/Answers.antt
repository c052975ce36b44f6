-- `cuddrewyn_key_in_segment` meets its contract: what the call under it gives, in numbers.
-- Assumes nothing.
use Rattle.std.specs.Prelude.{Ok}
use mathlib.Core.Path.{ap, sym, ◌∙◌}
use Rattle.export.specs.Exports.{key_in_reply}
use Rattle.export.proofs.key_calls.cuddrewyn_key_in_segment.Goals as goal

pub returns-in-Ok-Some : goal.returns-in-Ok-Some
unfolding key_in_reply
returns-in-Ok-Some c = let k = c in c.key_reply.ensures ∙ ap key_in_reply (sym (k.in-Ok-Some.is ∙ ap Ok k.in-Ok-Some.field-0-is) ∙ k.key_in_segment.ensures)

pub returns-in-Ok-None : goal.returns-in-Ok-None
unfolding key_in_reply
returns-in-Ok-None c = let k = c in c.plain.ensures ∙ ap key_in_reply (sym (k.in-Ok-None.is ∙ ap Ok k.in-Ok-None.field-0-is) ∙ k.key_in_segment.ensures)

pub returns-in-Err : goal.returns-in-Err
unfolding key_in_reply
returns-in-Err c = let k = c in c.refused.ensures ∙ ap key_in_reply (sym k.in-Err.is ∙ k.key_in_segment.ensures)
