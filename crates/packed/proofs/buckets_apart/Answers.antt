-- `packed::buckets_apart` meets its contract.
-- The invariant: the ranges that are left, from the place p on, decide the whole. The measure is how many are left. Assumes nothing.
use native.Mathlib.Omega.{arith}
use mathlib.Core.Path.{refl, sym, ap, ◌∙◌}
use lib.ListN.{drop}
use Rattle.ranges.specs.Overlap.{any_overlap}
use Rattle.packed.specs.Assignment.{all_in_order, ok_buckets}
use Rattle.packed.proofs.AssignmentLaws.{ranges-at, ranges-none, ok-reversed, ok-clash, ok-pass}
use Rattle.packed.proofs.buckets_apart.Goals as goal

pub loop-left-init : goal.loop-left-init
loop-left-init c = (refl, refl)

pub returns-then-range : goal.returns-then-range
returns-then-range c =
    let r = c in
    let l = r in
    let s = l.args.s.now in
    sym (l.loop-left.invariant.1
    ∙ ap ok_buckets (ranges-at s l.loop-left.p l.loop-left.left r.range_at-range.result r.loop-left-test.true r.range_at-range.ensures)
    ∙ ok-reversed r.range_at-range.result _ c.if-range.true)

pub returns-then-bucket_overlaps : goal.returns-then-bucket_overlaps
returns-then-bucket_overlaps c =
    let r = c in
    let l = r in
    let s = l.args.s.now in
    sym (l.loop-left.invariant.1
    ∙ ap ok_buckets (ranges-at s l.loop-left.p l.loop-left.left r.range_at-range.result r.loop-left-test.true r.range_at-range.ensures)
    ∙ ok-clash r.range_at-range.result _ (sym c.bucket_overlaps.ensures ∙ c.if-bucket_overlaps.true))

pub loop-left-preserved : goal.loop-left-preserved
loop-left-preserved c =
    let k = c in
    let r = k in
    let l = r in
    let s = l.args.s.now in (
      omega arith,
      l.loop-left.invariant.1
          ∙ ap ok_buckets (ranges-at s l.loop-left.p l.loop-left.left r.range_at-range.result r.loop-left-test.true r.range_at-range.ensures)
          ∙ ok-pass r.range_at-range.result _ k.if-range.false (sym c.bucket_overlaps.ensures ∙ c.if-bucket_overlaps.false),
    )

pub returns : goal.returns
unfolding ok_buckets all_in_order any_overlap
returns c =
    let l = c in
    let s = l.args.s.now in
    sym (l.loop-left.invariant.1 ∙ ap ok_buckets (ranges-none l.loop-left.left (drop l.loop-left.p s) c.loop-left-test.false))
