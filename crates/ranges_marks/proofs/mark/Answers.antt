-- `mark` meets its contract. The invariant is `Turn`, the measure how many values are left. Assumes nothing.
use native.Mathlib.Omega.{arith}
use mathlib.Core.Path.{sym, ◌∙◌}
use Rattle.ranges_marks.proofs.MarkLaws.{turn-start, turn-next, turn-found, counted, marking-found, marking-free}
use Rattle.ranges_marks.proofs.mark.Goals as goal

pub loop-at-init : goal.loop-at-init
loop-at-init c = let a = c in turn-start a.args.marks.now _ _ a.requires (omega arith)

pub mask-places-requires : goal.mask-places-requires
mask-places-requires c = let l = c in let k = counted l.loop-at.invariant c.loop-at-test.true _ c.min_u64-count.ensures in (k.0, k.1)

pub bounds-marks-i : goal.bounds-marks-i
bounds-marks-i c = omega (arith, c.loop-at.invariant.long, c.loop-at.invariant.few)

pub shape_of-marks-then-word-places-ne0 : goal.shape_of-marks-then-word-places-ne0
shape_of-marks-then-word-places-ne0 c =
    let l = c in
    l.loop-at.invariant.long ∙ sym l.requires

pub returns-then-word-places-ne0 : goal.returns-then-word-places-ne0
returns-then-word-places-ne0 c =
    let k = c in
    let l = k in
    let a = l in
    marking-found {r = a.args.range} l.loop-at.invariant a.requires (turn-found l.loop-at.invariant k.loop-at-test.true _ k.min_u64-count.ensures
    (rw c.mask-places.ensures at c.if-word-places-ne0.true))

pub bounds-marks-i-in-loop-at : goal.bounds-marks-i-in-loop-at
bounds-marks-i-in-loop-at c = let l = c in omega (arith, l.loop-at.invariant.long, l.loop-at.invariant.few)

pub loop-at-preserved : goal.loop-at-preserved
loop-at-preserved c =
    let k = c in
    let l = k in
    rw c.mask-places.ensures (turn-next l.loop-at.invariant k.loop-at-test.true _ k.min_u64-count.ensures
    (rw c.mask-places.ensures at c.if-word-places-ne0.false))

pub returns : goal.returns
returns c =
    let l = c in
    let a = l in
    marking-free {r = a.args.range} l.loop-at.invariant a.requires c.loop-at-test.false
