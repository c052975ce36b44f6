-- `topic_merge::take_out` meets its contract. The invariant is `Left` of proofs/TakeLaws; the measure is what is left of the second list.
-- Assumes nothing.
use Prim.Native.Nat.{◌+◌, ◌≤◌}
use native.Mathlib.Omega.{arith}
use mathlib.Core.Path.{◌≡◌, ◌∙◌}
use lib.ListN.{length}
use Rattle.watch_topics.proofs.WalkLaws.{entry-two}
use Rattle.watch_merge.proofs.TakeLaws.{take-start, part-whole, part-rises, gone-fits, place-room, take-room, take_next, take-end}
use Rattle.watch_merge.proofs.take_out.Goals as goal

pub loop-at-init : goal.loop-at-init
loop-at-init c =
    let a = c.args in
    take-start a.b.now a.gone.now (λ i. (c.slice_known-1.given i).fits) (λ i. (c.shared_slice_known-1.given i).fits)
    c.requires.0 c.requires.1

pub read_u16-n-requires : goal.read_u16-n-requires
read_u16-n-requires c =
    let a = c.args in
    entry-two a.gone.now c.loop-at.at c.loop-at-test.true c.loop-at.invariant.gone-rises.whole

pub overflow_add-end : goal.overflow_add-end
overflow_add-end c = omega (arith, (let it : (c.loop-at.at + 2 + c.read_u16-n.result ≤ length c.args.gone.now) = gone-fits c.loop-at.invariant c.loop-at-test.true c.read_u16-n.result c.read_u16-n.ensures in it))

pub overflow_add-end-in-loop-at : goal.overflow_add-end-in-loop-at
overflow_add-end-in-loop-at c = omega (arith, (let it : (c.loop-at.at + 2 + c.read_u16-n.result ≤ length c.args.gone.now) = gone-fits c.loop-at.invariant c.loop-at-test.true c.read_u16-n.result c.read_u16-n.ensures in it))

pub slice_bounds-seek-count : goal.slice_bounds-seek-count
slice_bounds-seek-count c =
    let v = c.loop-at.invariant in
    omega (arith, v.within, v.long)

pub slice_bounds-seek-start : goal.slice_bounds-seek-start
slice_bounds-seek-start c =
    let v = c.loop-at.invariant in
    omega (arith, v.within, v.long)

pub overflow_add-at : goal.overflow_add-at
overflow_add-at c = omega (arith, (let it : (c.loop-at.at + 2 + c.read_u16-n.result ≤ length c.args.gone.now) = gone-fits c.loop-at.invariant c.loop-at-test.true c.read_u16-n.result c.read_u16-n.ensures in it))

pub slice_bounds-seek-end-in-loop-at : goal.slice_bounds-seek-end-in-loop-at
slice_bounds-seek-end-in-loop-at c = omega (arith, (let it : (c.loop-at.at + 2 + c.read_u16-n.result ≤ length c.args.gone.now) = gone-fits c.loop-at.invariant c.loop-at-test.true c.read_u16-n.result c.read_u16-n.ensures in it))

pub seek-place-requires : goal.seek-place-requires
seek-place-requires c =
    let v = c.loop-at.invariant in
    (part-whole v, part-rises v)

pub move_down-requires : goal.move_down-requires
move_down-requires c =
    let v = c.loop-at.invariant in
    (v.down, omega (arith, (let it : (c.loop-at.from + c.seek-place.result.at ≤ length c.args.b.now) = place-room c.loop-at.invariant c.loop-at-test.true c.read_u16-n.result c.read_u16-n.ensures c.seek-place.result c.seek-place.ensures in it), v.long))

pub overflow_add-to : goal.overflow_add-to
overflow_add-to c =
    let v = c.loop-at.invariant in
    omega (arith, (let it : (c.loop-at.from + c.seek-place.result.at ≤ length c.args.b.now) = place-room c.loop-at.invariant c.loop-at-test.true c.read_u16-n.result c.read_u16-n.ensures c.seek-place.result c.seek-place.ensures in it), v.down)

pub overflow_add-n : goal.overflow_add-n
overflow_add-n c = omega (arith, (let it : (c.loop-at.at + 2 + c.read_u16-n.result ≤ length c.args.gone.now) = gone-fits c.loop-at.invariant c.loop-at-test.true c.read_u16-n.result c.read_u16-n.ensures in it))

pub overflow_add-from : goal.overflow_add-from
overflow_add-from c = omega (
  arith,
  (let it : (c.loop-at.from + c.seek-place.result.at + c.skip.result ≤ length c.args.b.now) = take-room c.loop-at.invariant c.loop-at-test.true c.read_u16-n.result c.read_u16-n.ensures c.seek-place.result c.seek-place.ensures
      c.skip.result c.skip.ensures in it),
)

pub overflow_add-from-in-loop-at : goal.overflow_add-from-in-loop-at
overflow_add-from-in-loop-at c = omega (
  arith,
  (let it : (c.loop-at.from + c.seek-place.result.at + c.skip.result ≤ length c.args.b.now) = take-room c.loop-at.invariant c.loop-at-test.true c.read_u16-n.result c.read_u16-n.ensures c.seek-place.result c.seek-place.ensures
      c.skip.result c.skip.ensures in it),
)

pub loop-at-smaller : goal.loop-at-smaller
loop-at-smaller c = omega (arith, (let it : (c.loop-at.at + 2 + c.read_u16-n.result ≤ length c.args.gone.now) = gone-fits c.loop-at.invariant c.loop-at-test.true c.read_u16-n.result c.read_u16-n.ensures in it))

pub loop-at-preserved : goal.loop-at-preserved
loop-at-preserved c =
    let d = c.move_down in
    let e : c.loop-at.from + (c.seek-place.result.at + c.skip.result) ≡ c.loop-at.from + c.seek-place.result.at + c.skip.result = omega arith in
    rw e (take_next c.loop-at.invariant c.loop-at-test.true c.read_u16-n.result c.read_u16-n.ensures c.seek-place.result c.seek-place.ensures
    c.skip.result c.skip.ensures d.new.b d.ensures d.auto.b)

pub overflow_sub-rest : goal.overflow_sub-rest
overflow_sub-rest c =
    let v = c.loop-at.invariant in
    omega (arith, v.within, v.long)

pub move_down-requires-2 : goal.move_down-requires-2
move_down-requires-2 c =
    let v = c.loop-at.invariant in
    (v.down, omega (arith, v.within, v.long))

pub overflow_add-result : goal.overflow_add-result
overflow_add-result c =
    let v = c.loop-at.invariant in
    omega (arith, v.within, v.long, v.down)

pub shape_of-b : goal.shape_of-b
shape_of-b c =
    let v = c.loop-at.invariant in
    c.move_down-2.auto.b ∙ v.long

pub returns : goal.returns
returns c =
    let d = c.move_down-2 in
    take-end c.loop-at.invariant (omega arith) d.new.b d.ensures
