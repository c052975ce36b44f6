-- `packed::buckets_marked` meets its contract. The invariant is `Laid`, the measure how many ranges are left. Assumes nothing.
use native.Mathlib.Omega.{arith}
use mathlib.Core.Path.{sym}
use borrow.Author.Rules.{rules}
use Rattle.packed.proofs.AssignmentLaws.{range_at}
use Rattle.packed.proofs.MarkedLaws.{laid-start, laid-reversed, laid-clash, laid_next, laid_end}
use Rattle.packed.proofs.buckets_marked.Goals as goal

pub loop-left-init : goal.loop-left-init
loop-left-init c = laid-start _ _ _

pub read_u16-first-requires : goal.read_u16-first-requires
read_u16-first-requires c = omega (arith, c.loop-left.invariant.place, c.requires)

pub read_u16-last-requires : goal.read_u16-last-requires
read_u16-last-requires c = omega (arith, c.loop-left.invariant.place, c.requires)

pub returns-then-last-first : goal.returns-then-last-first
returns-then-last-first c =
    let q = c in
    let r = q in
    let l = r in
    laid-reversed l.loop-left.invariant r.loop-left-test.true _
    (range_at _ _ r.read_u16-first.result q.read_u16-last.result r.read_u16-first.ensures q.read_u16-last.ensures) c.if-last-first.true

pub slice_bounds-mark-end : goal.slice_bounds-mark-end
slice_bounds-mark-end c = sym c.loop-left.invariant.marks.holds.long

pub mark-requires : goal.mark-requires
mark-requires c = c.loop-left.invariant.marks.holds.long

pub returns-then-mark : goal.returns-then-mark
returns-then-mark c =
    let w = c in
    let q = w in
    let r = q in
    let l = r in
    laid-clash l.loop-left.invariant r.loop-left-test.true _
    (range_at _ _ r.read_u16-first.result q.read_u16-last.result r.read_u16-first.ensures q.read_u16-last.ensures)
    (record { in_order = w.if-last-first.false; small = search rules }) c.mark.ensures c.if-mark.true

pub loop-left-preserved : goal.loop-left-preserved
loop-left-preserved c =
    let w = c in
    let q = w in
    let r = q in
    let l = r in
    laid_next l.loop-left.invariant r.loop-left-test.true _
    (range_at _ _ r.read_u16-first.result q.read_u16-last.result r.read_u16-first.ensures q.read_u16-last.ensures)
    (record { in_order = w.if-last-first.false; small = search rules }) c.mark.ensures c.if-mark.false

pub returns : goal.returns
returns c = laid_end c.loop-left.invariant c.loop-left-test.false
