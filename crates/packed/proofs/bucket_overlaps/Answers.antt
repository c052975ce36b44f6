-- `packed::bucket_overlaps` meets its contract.
-- The invariant: the ranges that are left, from the place p on, decide the whole. The measure is how many are left. Assumes nothing.
use native.Mathlib.Omega.{arith}
use mathlib.Core.Path.{refl, sym, ap, ◌∙◌}
use lib.ListN.{drop}
use Rattle.ranges.specs.Overlap.{overlaps_any}
use Rattle.packed.proofs.AssignmentLaws.{ranges-at, ranges-none, overlaps-found, overlaps-further}
use Rattle.packed.proofs.bucket_overlaps.Goals as goal

pub loop-left-init : goal.loop-left-init
loop-left-init c = (refl, refl)

pub returns-then-overlaps : goal.returns-then-overlaps
returns-then-overlaps c =
    let r = c in
    let l = r in
    let a = l.args in
    sym (l.loop-left.invariant.1
    ∙ ap (overlaps_any a.range)
    (ranges-at a.s.now l.loop-left.p l.loop-left.left r.range_at.result r.loop-left-test.true r.range_at.ensures)
    ∙ overlaps-found r.range_at.result _ a.range (sym c.overlaps.ensures ∙ c.if-overlaps.true))

pub loop-left-preserved : goal.loop-left-preserved
loop-left-preserved c =
    let r = c in
    let l = r in
    let a = l.args in (
      omega arith,
      l.loop-left.invariant.1
          ∙ ap (overlaps_any a.range)
          (ranges-at a.s.now l.loop-left.p l.loop-left.left r.range_at.result r.loop-left-test.true r.range_at.ensures)
          ∙ overlaps-further r.range_at.result _ a.range (sym c.overlaps.ensures ∙ c.if-overlaps.false),
    )

pub returns : goal.returns
unfolding overlaps_any
returns c =
    let l = c in
    let a = l.args in
    sym (l.loop-left.invariant.1 ∙ ap (overlaps_any a.range) (ranges-none l.loop-left.left (drop l.loop-left.p a.s.now) c.loop-left-test.false))
