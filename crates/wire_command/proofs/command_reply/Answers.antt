-- `command_reply` meets its contract: each arm is a case of `command_reply`. Assumes nothing.
use Rattle.std.specs.Prelude.{Ok}
use mathlib.Core.Path.{sym, ap, ◌∙◌}
use native.Mathlib.Omega.{arith}
use Rattle.wire_command.specs.Replies.{command_reply}
use Rattle.wire_command.proofs.CommandLaws.{parts-reply, other-reply}
use Rattle.wire_command.proofs.command_reply.Goals as goal

pub returns-in-Response : goal.returns-in-Response
unfolding command_reply
returns-in-Response c = c.found_reply.ensures ∙ sym (ap command_reply (c.in-Ok.is ∙ ap Ok c.in-Response.is))

pub returns-in-Update : goal.returns-in-Update
unfolding command_reply
returns-in-Update c = c.found_reply-in-Update.ensures ∙ sym (ap command_reply (c.in-Ok.is ∙ ap Ok c.in-Update.is))

pub returns-in-Watch : goal.returns-in-Watch
unfolding command_reply
returns-in-Watch c = c.found_reply-in-Watch.ensures ∙ sym (ap command_reply (c.in-Ok.is ∙ ap Ok c.in-Watch.is))

pub returns-in-Parts : goal.returns-in-Parts
returns-in-Parts c =
    let k = c in
    parts-reply (omega arith) c.word.ensures _ (k.in-Ok.is ∙ ap Ok k.in-Parts.is) c.two.ensures

pub returns-in-Other : goal.returns-in-Other
returns-in-Other c =
    let k = c in
    other-reply (omega arith) c.word-in-Other.ensures (k.in-Ok.is ∙ ap Ok k.in-Other.is) c.one.ensures

pub returns-in-Err : goal.returns-in-Err
unfolding command_reply
returns-in-Err c = c.refused.ensures ∙ sym (ap command_reply c.in-Err.is)
