-- `to_pb` meets its contract: each return is the case of `write_outcome` that the tests before it leave. Assumes nothing.
use Prim.Native.Nat.{ℕ, ◌<◌}
use native.Mathlib.Omega.{arith}
use mathlib.Core.Path.{◌≡◌, sym, ◌∙◌, subst}
use Rattle.slice.proofs.PartLaws.{rest}
use Rattle.name_parents.proofs.PathLaws.{parent-long}
use Rattle.packed.proofs.AssignmentLaws.{Rest}
use Rattle.packed.proofs.WholeLaws.{whole-read}
use Rattle.std.proofs.lemmas.Result.{err_from_is_err_and}
use Rattle.writer.proofs.OutcomeLaws.{due-none, due-some, write-malformed, write-empty, write-outside, write-not-utf8, write-no-parent, write-below}
use Rattle.writer.proofs.to_pb.Goals as goal

some : (n : ℕ) → (n ≡ 0 → ⊥) → 0 < n
some n h = omega arith

pub returns-in_err-count : goal.returns-in_err-count
returns-in_err-count c =
    let a = c.args in
    let p = err_from_is_err_and c.from_residual.result c.from_residual.ensures.1 in
    let none = due-none _ _ _ (sym c.ok_or.ensures.value ∙ c.in_err-count.was) in
    rw (p.1, p.2, none.1) (write-malformed a.assignment.now a.parent.now a.out.now (sym none.0 ∙ c.read_whole.ensures))

pub write_message-requires : goal.write_message-requires
write_message-requires c =
    let whole = whole-read _ _ _ (sym (due-some _ _ _ (sym c.ok_or.ensures.value ∙ c.in_ok-count.was)) ∙ c.read_whole.ensures) in
    subst (Rest c.args.assignment.now 10) c.if-count-eq0.true whole.records

pub returns-then-count-eq0 : goal.returns-then-count-eq0
returns-then-count-eq0 c =
    let a = c.args in
    c.write_message.ensures
    ∙ write-empty a.assignment.now a.parent.now a.out.now _ (whole-read _ _ _ (sym (due-some _ _ _ (sym c.ok_or.ensures.value ∙ c.in_ok-count.was)) ∙ c.read_whole.ensures)) c.if-count-eq0.true

pub segments_outside-requires : goal.segments_outside-requires
segments_outside-requires c = (whole-read _ _ _ (sym (due-some _ _ _ (sym c.ok_or.ensures.value ∙ c.in_ok-count.was)) ∙ c.read_whole.ensures)).records

pub returns-in_err-segments_outside : goal.returns-in_err-segments_outside
returns-in_err-segments_outside c =
    let a = c.args in
    let f = c.from_residual-in_err-segments_outside in
    let p = err_from_is_err_and f.result f.ensures.1 in
    rw (p.1, p.2) (write-outside a.assignment.now a.parent.now a.out.now _ (whole-read _ _ _ (sym (due-some _ _ _ (sym c.ok_or.ensures.value ∙ c.in_ok-count.was)) ∙ c.read_whole.ensures)) _
    (sym c.in_err-segments_outside.was ∙ c.segments_outside.ensures))

pub returns-then-not-is_utf8 : goal.returns-then-not-is_utf8
returns-then-not-is_utf8 c =
    let a = c.args in
    write-not-utf8 a.assignment.now a.parent.now a.out.now _ (whole-read _ _ _ (sym (due-some _ _ _ (sym c.ok_or.ensures.value ∙ c.in_ok-count.was)) ∙ c.read_whole.ensures)) (some _ c.if-count-eq0.false) (sym c.in_ok-segments_outside.was ∙ c.segments_outside.ensures)
    (sym c.is_utf8.ensures ∙ c.if-not-is_utf8.true)

pub returns-then-not-is_parent : goal.returns-then-not-is_parent
returns-then-not-is_parent c =
    let a = c.args in
    write-no-parent a.assignment.now a.parent.now a.out.now _ (whole-read _ _ _ (sym (due-some _ _ _ (sym c.ok_or.ensures.value ∙ c.in_ok-count.was)) ∙ c.read_whole.ensures)) (some _ c.if-count-eq0.false) (sym c.in_ok-segments_outside.was ∙ c.segments_outside.ensures) (sym c.is_utf8.ensures ∙ c.if-not-is_utf8.false)
    (sym c.is_parent.ensures ∙ c.if-not-is_parent.true)

pub slice_bounds-write_message-count : goal.slice_bounds-write_message-count
slice_bounds-write_message-count c = parent-long c.args.parent.now (sym c.is_parent.ensures ∙ c.if-not-is_parent.false)

pub slice_bounds-write_message-start : goal.slice_bounds-write_message-start
slice_bounds-write_message-start c = omega (arith, parent-long c.args.parent.now (sym c.is_parent.ensures ∙ c.if-not-is_parent.false))

pub write_message-requires-2 : goal.write_message-requires-2
write_message-requires-2 c = (whole-read _ _ _ (sym (due-some _ _ _ (sym c.ok_or.ensures.value ∙ c.in_ok-count.was)) ∙ c.read_whole.ensures)).records

pub returns : goal.returns
returns c =
    let a = c.args in
    (rw (rest a.parent.now 8) at c.write_message-2.ensures)
    ∙ write-below a.assignment.now a.parent.now a.out.now _ (whole-read _ _ _ (sym (due-some _ _ _ (sym c.ok_or.ensures.value ∙ c.in_ok-count.was)) ∙ c.read_whole.ensures)) (some _ c.if-count-eq0.false) (sym c.in_ok-segments_outside.was ∙ c.segments_outside.ensures) (sym c.is_utf8.ensures ∙ c.if-not-is_utf8.false) (sym c.is_parent.ensures ∙ c.if-not-is_parent.false)
