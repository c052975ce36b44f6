-- `packed::buckets_rise` meets its contract.
-- The invariant: the ranges that are left, from the place p on, rise from `low` exactly if all do.
-- The measure is how many are left. Assumes nothing.
use native.Mathlib.Omega.{arith}
use mathlib.Core.Path.{refl, sym, ap, ◌∙◌}
use lib.ListN.{drop}
use Rattle.ranges.specs.Overlap.{rising_from}
use Rattle.packed.proofs.AssignmentLaws.{ranges-at, ranges-none, rising-stops, rising-further}
use Rattle.packed.proofs.buckets_rise.Goals as goal

pub loop-left-init : goal.loop-left-init
loop-left-init c = (refl, refl)

pub returns-then-not-starts_from : goal.returns-then-not-starts_from
returns-then-not-starts_from c =
    let r = c in
    let l = r in
    let a = l.args in
    sym (l.loop-left.invariant.1
    ∙ ap (rising_from l.loop-left.low)
    (ranges-at a.s.now l.loop-left.p l.loop-left.left r.range_at-range.result r.loop-left-test.true r.range_at-range.ensures)
    ∙ rising-stops r.range_at-range.result _ l.loop-left.low (sym c.starts_from.ensures ∙ c.if-not-starts_from.true))

pub loop-left-preserved : goal.loop-left-preserved
loop-left-preserved c =
    let t = c in
    let r = t in
    let l = r in
    let a = l.args in (
      omega arith,
      l.loop-left.invariant.1
          ∙ ap (rising_from l.loop-left.low)
          (ranges-at a.s.now l.loop-left.p l.loop-left.left r.range_at-range.result r.loop-left-test.true r.range_at-range.ensures)
          ∙ rising-further r.range_at-range.result _ l.loop-left.low c.above-low.result
          (sym t.starts_from.ensures ∙ c.if-not-starts_from.false) c.above-low.ensures,
    )

pub returns : goal.returns
unfolding rising_from
returns c =
    let l = c in
    let a = l.args in
    sym (l.loop-left.invariant.1 ∙ ap (rising_from l.loop-left.low) (ranges-none l.loop-left.left (drop l.loop-left.p a.s.now) c.loop-left-test.false))
