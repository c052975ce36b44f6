-- `put_decimal` meets its contract. The invariant: what is left of the number in decimal, before the digits that are put, is the number in
-- decimal (`Counting` of proofs/TailLaws). The measure is what is left of the number.
-- Assumes nothing.
use native.Mathlib.Omega.{arith}
use mathlib.Core.Path.{refl}
use Rattle.name_topic.proofs.TailLaws.{longer-set, counting-start, counting-next, counting-end}
use Rattle.name_topic.proofs.descriptor.put_decimal.Goals as goal

pub loop-v-init : goal.loop-v-init
loop-v-init c = counting-start c.args.id _ refl refl (omega arith)

pub overflow_sub-from : goal.overflow_sub-from
overflow_sub-from c = omega (arith, c.loop-v.invariant.room)

pub bounds-bytes-from : goal.bounds-bytes-from
bounds-bytes-from c = omega (arith, c.loop-v.invariant.room)

pub loop-v-preserved : goal.loop-v-preserved
loop-v-preserved c =
    let l = c.loop-v in
    counting-next c.args.id _ l.v l.invariant _ _
    (longer-set l.bytes l.from c.digit.result (omega (arith, l.invariant.room)) l.invariant.room.high l.invariant.room.long)
    c.digit.ensures (omega arith)

pub overflow_sub-from-2 : goal.overflow_sub-from-2
overflow_sub-from-2 c = omega (arith, c.loop-v.invariant.room)

pub bounds-bytes-from-2 : goal.bounds-bytes-from-2
bounds-bytes-from-2 c = omega (arith, c.loop-v.invariant.room)

pub returns : goal.returns
returns c =
    let l = c.loop-v in
    counting-end c.args.id _ l.v l.invariant _ _
    (longer-set l.bytes l.from c.digit-2.result (omega (arith, l.invariant.room)) l.invariant.room.high l.invariant.room.long)
    c.digit-2.ensures (omega arith)
