-- `log_rows::same_entry` meets its contract: each arm is a case of `same_entry`.
-- Assumes nothing.
use borrow.Author.Rules.{rules}
use Rattle.attach_rows.proofs.EntryLaws.{same-detaches, same-attaches, detach-attach, attach-detach}
use Rattle.attach_rows.proofs.same_entry.Goals as goal

pub returns-in-Detach-y : goal.returns-in-Detach-y
returns-in-Detach-y c = let y = c in
    let x = y in
    let a = x.args in
    same-detaches a.x a.y x.in-Detach.i y.in-Detach-y.j x.in-Detach.is y.in-Detach-y.is

pub returns-in-Attach-y : goal.returns-in-Attach-y
returns-in-Attach-y c = let x = c in
    let a = x.args in
    detach-attach a.x a.y x.in-Detach.i c.in-Attach-y.field-0 x.in-Detach.is c.in-Attach-y.is

pub returns-in-Detach-y-2 : goal.returns-in-Detach-y-2
returns-in-Detach-y-2 c = let x = c in
    let a = x.args in
    attach-detach a.x a.y x.in-Attach.i c.in-Detach-y-2.field-0 x.in-Attach.is c.in-Detach-y-2.is

pub returns-in-Attach-y-2 : goal.returns-in-Attach-y-2
returns-in-Attach-y-2 c = let y = c in
    let x = y in
    let a = x.args in
    same-attaches a.x a.y x.in-Attach.i y.in-Attach-y-2.j x.in-Attach.is y.in-Attach-y-2.is
