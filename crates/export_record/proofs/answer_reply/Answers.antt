-- `answer_reply` meets its contract.
-- Assumes nothing.
use mathlib.Core.Path.{ap, sym, ◌∙◌}
use Rattle.std.specs.Prelude.{Ok}
use Rattle.export_record.specs.Replies.{answer_reply}
use Rattle.export_record.proofs.answer_reply.Goals as goal

pub returns-in-Err : goal.returns-in-Err
unfolding answer_reply
returns-in-Err c = c.refused.ensures ∙ sym (ap answer_reply c.in-Err.is)

pub returns-in-Ok-Accepted : goal.returns-in-Ok-Accepted
unfolding answer_reply
returns-in-Ok-Accepted c =
    let a = c.in-Ok-Accepted in
    c.plain.ensures ∙ sym (ap answer_reply (a.is ∙ ap Ok (rw a.is at a.field-0-is)))

pub returns-in-Ok-Unchanged : goal.returns-in-Ok-Unchanged
unfolding answer_reply
returns-in-Ok-Unchanged c =
    let a = c.in-Ok-Unchanged in
    c.plain-in-Ok-Unchanged.ensures ∙ sym (ap answer_reply (a.is ∙ ap Ok (rw a.is at a.field-0-is)))

pub returns-in-Ok-Delta : goal.returns-in-Ok-Delta
unfolding answer_reply
returns-in-Ok-Delta c =
    let a = c.in-Ok-Delta in
    c.one.ensures ∙ sym (ap answer_reply (a.is ∙ ap Ok (rw a.is at a.field-0-is)))

pub returns-in-Ok-Replay : goal.returns-in-Ok-Replay
unfolding answer_reply
returns-in-Ok-Replay c =
    let a = c.in-Ok-Replay in
    c.two.ensures ∙ sym (ap answer_reply (a.is ∙ ap Ok (rw a.is at a.field-0-is)))
