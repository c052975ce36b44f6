-- `cuddrewyn_charge` meets its contract: what the call under it gives, in numbers.
-- Assumes nothing.
use mathlib.Core.Path.{sym, ap, ◌∙◌}
use Rattle.export.specs.Exports.{charge_reply}
use Rattle.export.proofs.charge_calls.cuddrewyn_charge.Goals as goal

pub returns-in-Ok : goal.returns-in-Ok
unfolding charge_reply
returns-in-Ok c = let k = c in c.two.ensures ∙ ap charge_reply (sym k.in-Ok.is ∙ k.charge.ensures)

pub returns-in-Err : goal.returns-in-Err
unfolding charge_reply
returns-in-Err c = let k = c in c.refused.ensures ∙ ap charge_reply (sym k.in-Err.is ∙ k.charge.ensures)
