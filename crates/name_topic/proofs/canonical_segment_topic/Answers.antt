-- `canonical_segment_topic` meets its contract: each return is the case of `canonical_segment_topic` that the tests before it leave.
-- Assumes nothing.
use native.Mathlib.Omega.{arith}
use mathlib.Core.Path.{sym, ◌∙◌}
use Rattle.std.proofs.lemmas.Result.{err_from_is_err_and}
use Rattle.slice.proofs.PartLaws.{rest}
use Rattle.name_parents.proofs.PathLaws.{parent-long}
use Rattle.name_topic.proofs.BuildLaws.{canonical-not-utf8, canonical-no-range, canonical-no-parent, canonical-written}
use Rattle.name_topic.proofs.canonical_segment_topic.Goals as goal

pub returns-then-not-is_utf8 : goal.returns-then-not-is_utf8
returns-then-not-is_utf8 c =
    let a = c.args in
    let other = sym c.is_utf8.ensures ∙ c.if-not-is_utf8.true in
    sym (canonical-not-utf8 a.parent.now a.start a.end a.id a.out.now other)

pub returns-in_err-range : goal.returns-in_err-range
returns-in_err-range c =
    let a = c.args in
    let none = sym c.new.ensures ∙ c.in_err-range.was in
    let p = err_from_is_err_and c.from_residual.result c.from_residual.ensures.1 in
    rw (p.1, p.2) (sym (canonical-no-range a.parent.now a.start a.end a.id a.out.now (sym c.is_utf8.ensures ∙ c.if-not-is_utf8.false) _ none))

pub returns-then-not-is_parent : goal.returns-then-not-is_parent
returns-then-not-is_parent c =
    let a = c.args in
    let other = sym c.is_parent.ensures ∙ c.if-not-is_parent.true in
    sym (canonical-no-parent a.parent.now a.start a.end a.id a.out.now (sym c.is_utf8.ensures ∙ c.if-not-is_utf8.false) _ (sym c.new.ensures ∙ c.in_ok-range.was) other)

pub slice_bounds-write_segment_topic-count : goal.slice_bounds-write_segment_topic-count
slice_bounds-write_segment_topic-count c = parent-long c.args.parent.now (sym c.is_parent.ensures ∙ c.if-not-is_parent.false)

pub slice_bounds-write_segment_topic-start : goal.slice_bounds-write_segment_topic-start
slice_bounds-write_segment_topic-start c =
    omega (arith, parent-long c.args.parent.now (sym c.is_parent.ensures ∙ c.if-not-is_parent.false))

pub returns : goal.returns
returns c =
    let a = c.args in
    let valid = sym c.is_parent.ensures ∙ c.if-not-is_parent.false in
    (rw (rest a.parent.now 8) at c.write_segment_topic.ensures)
    ∙ sym (canonical-written a.parent.now a.start a.end a.id a.out.now (sym c.is_utf8.ensures ∙ c.if-not-is_utf8.false) _ (sym c.new.ensures ∙ c.in_ok-range.was) valid)
