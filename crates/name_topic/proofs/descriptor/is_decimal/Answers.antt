-- `is_decimal` meets its contract. The invariant: the bytes from the place end on are the number's last digits. The measure is what is left of it.
-- Assumes nothing.
use native.Mathlib.Omega.{arith}
use mathlib.Core.Path.{sym, ap, ◌∙◌}
use lib.ListN.{get_or}
use lib.Dec.{eqb}
use Rattle.name_topic.proofs.CompareLaws.{ending-start, ending-next, ending-short, ending-other, ending-long, ending-end}
use Rattle.name_topic.proofs.descriptor.is_decimal.Goals as goal

pub loop-v-init : goal.loop-v-init
loop-v-init c = let a = c.args in ending-start a.id a.s.now a.at c.requires (omega arith)

pub returns-then-end-at : goal.returns-then-end-at
returns-then-end-at c =
    let l = c.loop-v in
    let a = c.args in
    sym (ending-short a.id a.s.now a.at l.end l.v l.invariant (omega arith) (omega arith))

pub bounds-s-end : goal.bounds-s-end
bounds-s-end c = let l = c.loop-v in omega (arith, l.invariant.high)

pub returns-then-s-end : goal.returns-then-s-end
returns-then-s-end c =
    let l = c.loop-v in
    let a = c.args in
    let digit = c.digit.ensures in
    sym (ending-other a.id a.s.now a.at l.end l.v l.invariant (omega arith) (omega arith) (λ e. c.if-s-end.true (e ∙ sym digit)))

pub loop-v-preserved : goal.loop-v-preserved
loop-v-preserved c =
    let l = c.loop-v in
    let a = c.args in
    ending-next a.id a.s.now a.at l.end l.v l.invariant (omega arith) (omega arith) (c.if-s-end.false ∙ c.digit.ensures)

pub returns-then-end-at-2 : goal.returns-then-end-at-2
returns-then-end-at-2 c =
    let l = c.loop-v in
    let a = c.args in
    sym (ending-long a.id a.s.now a.at l.end l.v l.invariant (omega arith) c.if-end-at-2.true)

pub returns : goal.returns
returns c =
    let l = c.loop-v in
    let a = c.args in
    ap (eqb (get_or a.s.now a.at 0)) c.digit-2.ensures
    ∙ ending-end a.id a.s.now a.at l.end l.v l.invariant (omega arith) c.if-end-at-2.false
