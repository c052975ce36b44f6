-- `cuddrewyn_earliest_open` meets its contract: what the call under it gives, in numbers.
-- Assumes nothing.
use Rattle.std.specs.Prelude.{Ok}
use mathlib.Core.Path.{sym, ap, ◌∙◌}
use Rattle.export.specs.Exports.{earliest_reply}
use Rattle.export.proofs.ExportLaws.{earliest-call}
use Rattle.export.proofs.hours_calls.cuddrewyn_earliest_open.Goals as goal

pub returns-in-Ok-Some : goal.returns-in-Ok-Some
unfolding earliest_reply
returns-in-Ok-Some c = let e = c in
    earliest-call e.earliest_open.result e.earliest_open.ensures
    (c.one.ensures ∙ sym (ap earliest_reply (c.in-Ok-Some.is ∙ ap Ok c.in-Ok-Some.field-0-is)))

pub returns-in-Ok-None : goal.returns-in-Ok-None
unfolding earliest_reply
returns-in-Ok-None c = let e = c in
    earliest-call e.earliest_open.result e.earliest_open.ensures
    (c.plain.ensures ∙ sym (ap earliest_reply (c.in-Ok-None.is ∙ ap Ok c.in-Ok-None.field-0-is)))

pub returns-in-Err : goal.returns-in-Err
unfolding earliest_reply
returns-in-Err c = let e = c in
    earliest-call e.earliest_open.result e.earliest_open.ensures
    (c.refused.ensures ∙ sym (ap earliest_reply c.in-Err.is))
