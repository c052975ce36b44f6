-- `saved::restore` meets its contract: the form is tested, then its record and part are taken.
-- Assumes nothing.
use Prim.Native.Nat.{◌-◌, ◌≤◌}
use native.Mathlib.Omega.{arith}
use mathlib.Core.Path.{ap, ◌∙◌}
use mathlib.Core.Bool.{not}
use lib.ListN.{length, drop, length-drop}
use lib.Seq.{length-take-le}
use Rattle.export_record.specs.Replies.{record_of}
use Rattle.session_saved.specs.Form.{saved_record}
use Rattle.session_saved.proofs.CallLaws.{no-form, form-long, form-taken}
use Rattle.session_saved.proofs.restore.Goals.{Else-not-is_saved}
use Rattle.session_saved.proofs.restore.Goals as goal

long : (c : Else-not-is_saved) → 6255 ≤ length c.args.bytes.now
long c =
    let a = c in
    form-long c.args.bytes.now c.args.store.now a.is_saved.result a.is_saved.ensures (ap not c.if-not-is_saved.false)

pub returns-then-not-is_saved : goal.returns-then-not-is_saved
returns-then-not-is_saved c =
    let a = c in
    no-form _ _ a.is_saved.result a.is_saved.ensures (ap not c.if-not-is_saved.true) c.refused.result c.refused.ensures

pub read_record-requires : goal.read_record-requires
read_record-requires c = omega (arith, long (goal.at.read_record-requires c).Else-not-is_saved)

pub overflow_sub-end : goal.overflow_sub-end
overflow_sub-end c = omega (arith, long (goal.at.overflow_sub-end c).Else-not-is_saved)

pub slice_bounds-put_part-count : goal.slice_bounds-put_part-count
slice_bounds-put_part-count c = omega (arith, long (goal.at.slice_bounds-put_part-count c).Else-not-is_saved)

pub slice_bounds-put_part-start : goal.slice_bounds-put_part-start
slice_bounds-put_part-start c = omega (arith, long (goal.at.slice_bounds-put_part-start c).Else-not-is_saved)

pub put_part-requires : goal.put_part-requires
put_part-requires c =
    let e = c in
    let f = e.args.bytes.now in
    omega (arith, long (goal.at.put_part-requires c).Else-not-is_saved, length-take-le (length f - 4 - 107) (drop 107 f) (omega (arith, length-drop 107 f)))

pub returns : goal.returns
unfolding saved_record
returns c =
    let p = c in
    let r = p in
    let e = r in
    let a = e in
    form-taken _ _ a.is_saved.result a.is_saved.ensures (ap not e.if-not-is_saved.false) r.record_of-next.result
    (r.record_of-next.ensures ∙ ap record_of r.read_record.ensures) _ p.put_part.ensures
