-- `attach_log::load_row` meets its contract. The invariant: the first `count` ids stand in the row (`Loading`). The measure is
-- how many ids are left. Assumes nothing.
use Prim.Native.Nat.{◌+◌, ◌≤◌}
use native.Mathlib.Omega.{arith}
use mathlib.Core.Path.{refl, ◌∙◌}
use lib.ListN.{length, drop, length-set}
use Rattle.attach_log.specs.Steps.{size_first}
use Rattle.attach_log.proofs.PartLaws.{size-least-first, load-start, load_inside, load-turn}
use Rattle.attach_log.proofs.load_row.Goals.{Else-n-count}
use Rattle.attach_log.proofs.load_row.Goals as goal

-- the place where an id is left
inside : (c : Else-n-count) → let l = c in
    let a = l.args in
    l.loop-count.next + size_first a.attach (drop l.loop-count.next a.s.now) ≤ length a.s.now
inside c =
    let l = c in
    let a = l.args in
    load_inside a.attach a.s.now a.at a.n l.loop-count.next l.loop-count.count l.loop-count.ids l.loop-count.invariant.0 c.if-n-count.false

pub loop-count-init : goal.loop-count-init
loop-count-init c =
    let s = c in
    let a = s.args in (load-start a.attach a.s.now a.at a.n a.ids.now s.requires.s_in_bounds, refl)

pub shape_of-ids-then-n-count : goal.shape_of-ids-then-n-count
shape_of-ids-then-n-count c = c.loop-count.invariant.1

pub returns-then-n-count : goal.returns-then-n-count
returns-then-n-count c = (c.loop-count.invariant.0, λ z. omega (arith, c.if-n-count.true))

pub read_u64-requires : goal.read_u64-requires
read_u64-requires c =
    let l = c in
    let a = l.args in
    omega (arith, inside (goal.at.read_u64-requires c).Else-n-count, size-least-first a.attach (drop l.loop-count.next a.s.now))

pub bounds-ids-count : goal.bounds-ids-count
bounds-ids-count c = c.loop-count-test.true

pub size_first-next-requires : goal.size_first-next-requires
size_first-next-requires c = inside (goal.at.size_first-next-requires c).Else-n-count

pub overflow_add-next : goal.overflow_add-next
overflow_add-next c =
    let e = c in
    let s = e in omega (arith, inside (goal.at.overflow_add-next c).Else-n-count, c.size_first-next.ensures, s.well_formed)

pub loop-count-preserved : goal.loop-count-preserved
loop-count-preserved c =
    let r = c in
    let e = r in
    let l = e in
    let a = l.args in
    let z = length-set l.loop-count.ids l.loop-count.count r.read_u64.result in (
      load-turn a.attach a.s.now a.at a.n l.loop-count.next l.loop-count.count l.loop-count.ids l.loop-count.invariant.0 e.if-n-count.false
          r.read_u64.result r.read_u64.ensures e.loop-count-test.true c.size_first-next.result c.size_first-next.ensures _ refl z,
      z ∙ l.loop-count.invariant.1,
    )

pub shape_of-ids : goal.shape_of-ids
shape_of-ids c = c.loop-count.invariant.1

pub returns : goal.returns
returns c =
    let l = c in
    let s = l in
    (l.loop-count.invariant.0, λ z. omega (arith, s.requires.ids_nonzero, l.loop-count.invariant.1, c.loop-count-test.false))

pub loop-count-smaller : goal.loop-count-smaller
loop-count-smaller c = omega (arith, c.if-n-count.false)
