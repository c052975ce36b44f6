-- `delta::ids_rise` meets its contract.
-- The invariant is `Ids` of proofs/ReadLaws: the ids that are left, from the place p on, decide the whole.
-- The measure is how many are left. Assumes nothing.
use native.Mathlib.Omega.{arith}
use mathlib.Core.Path.{ap}
use mathlib.Core.Bool.{not}
use Rattle.packed_delta.proofs.ReadLaws.{lowest-first, lowest-above, lowest-stale, ids-start, ids-stale, ids_next, ids-end}
use Rattle.packed_delta.proofs.ids_rise.Goals as goal
use Rattle.packed_delta.proofs.ids_rise.Goals.{else-not-first-via-then-not-first+else-next-prev, else-not-first-via-else-not-first}

pub loop-left-init : goal.loop-left-init
loop-left-init c = let a = c.args in ids-start a.s.now a.at a.n

pub read_u64-next-requires : goal.read_u64-next-requires
read_u64-next-requires c = omega (arith, c.loop-left.invariant.place)

pub returns-then-next-prev : goal.returns-then-next-prev
returns-then-next-prev c =
    let l = c.loop-left in
    ids-stale l.invariant c.loop-left-test.true c.read_u64-next.ensures
    (lowest-stale l.first l.prev c.read_u64-next.result (ap not c.if-not-first.true) c.if-next-prev.true)

pub overflow_add-p : goal.overflow_add-p
overflow_add-p c = omega (arith, c.loop-left.invariant.place)

pub loop-left-preserved : goal.loop-left-preserved
loop-left-preserved c =
    let l = c.loop-left in
    let i = c.read_u64-next.result in
    ids_next l.invariant c.loop-left-test.true c.read_u64-next.ensures
    (elim c.else-not-first.branch [
      | else-not-first-via-then-not-first+else-next-prev w ↦ lowest-above l.first l.prev i (ap not w.if-not-first.true) w.if-next-prev.false
      | else-not-first-via-else-not-first w ↦ lowest-first l.first l.prev i (ap not w.if-not-first.false)
    ])

pub returns : goal.returns
returns c = ids-end c.loop-left.invariant c.loop-left-test.false
