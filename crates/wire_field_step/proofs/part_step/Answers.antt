-- `part_step` meets its contract: each arm is the case of `part_step` for that value. Assumes nothing.
use mathlib.Core.Path.{sym, ◌∙◌}
use Rattle.wire_field_step.proofs.part_step.Goals as goal

pub returns-in-Any : goal.returns-in-Any
returns-in-Any c = rw c.in-Any.is

pub returns-in-Number : goal.returns-in-Number
returns-in-Number c = rw c.in-Number.is

pub returns-then-is_utf8 : goal.returns-then-is_utf8
returns-then-is_utf8 c =
    let e = sym c.is_utf8.ensures ∙ c.if-is_utf8.true in
    rw (c.in-Text.is, e)

pub returns-else-is_utf8 : goal.returns-else-is_utf8
returns-else-is_utf8 c =
    let e = sym c.is_utf8.ensures ∙ c.if-is_utf8.false in
    rw (c.in-Text.is, e)

pub returns-in-Message : goal.returns-in-Message
returns-in-Message c = rw c.in-Message.is
