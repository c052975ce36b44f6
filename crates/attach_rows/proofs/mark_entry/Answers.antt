-- `log_rows::mark_entry` meets its contract: an entry of the other kind marks nothing.
-- Assumes nothing.
use borrow.Author.Tests.{not-true, not-false}
use borrow.Author.Rules.{rules}
use Rattle.attach_rows.proofs.MarkLaws.{mark-detach, mark-attach, mark-no-detach, mark-no-attach}
use Rattle.attach_rows.proofs.mark_entry.Goals as goal

pub returns-then-not-attach : goal.returns-then-not-attach
returns-then-not-attach c =
    let k = c in
    let t = k in
    let a = t.args in
    mark-detach a.entry a.attach t.in-Detach.id a.ids.now a.marks.now k.mark_id.new.marks t.in-Detach.is
    (t.if-not-attach.true) k.mark_id.ensures

pub returns-else-not-attach : goal.returns-else-not-attach
returns-else-not-attach c =
    let a = c.args in
    mark-no-detach a.entry a.attach c.in-Detach.id a.ids.now a.marks.now c.in-Detach.is (c.if-not-attach.false)

pub returns-then-attach : goal.returns-then-attach
returns-then-attach c =
    let k = c in
    let t = k in
    let a = t.args in
    mark-attach a.entry a.attach t.in-Attach.id a.ids.now a.marks.now k.mark_id-then-attach.new.marks t.in-Attach.is
    t.if-attach.true k.mark_id-then-attach.ensures

pub returns-else-attach : goal.returns-else-attach
returns-else-attach c =
    let a = c.args in
    mark-no-attach a.entry a.attach c.in-Attach.id a.ids.now a.marks.now c.in-Attach.is c.if-attach.false
