-- `topics::compare_bytes` meets its contract: the bytes before i are alike, so what is behind them decides. The measure is what is left of a.
-- Assumes nothing.
use native.Mathlib.Omega.{arith}
use mathlib.Core.Path.{refl, sym, ◌∙◌}
use Rattle.watch_topics.proofs.OrderLaws.{order-less, order-greater, order-next, order-longer, order-shorter, order-end}
use Rattle.watch_topics.proofs.compare_bytes.Goals as goal

pub loop-i-init : goal.loop-i-init
loop-i-init c = record { first = omega arith; second = omega arith; order_is = refl }

pub returns-then-b-i : goal.returns-then-b-i
returns-then-b-i c =
    let a = c.args in
    sym (c.loop-i.invariant.order_is ∙ order-longer a.a.now a.b.now c.loop-i.i (omega arith) (omega arith))

pub returns-then-x-y : goal.returns-then-x-y
returns-then-x-y c =
    let a = c.args in
    sym (c.loop-i.invariant.order_is ∙ order-less a.a.now a.b.now c.loop-i.i (omega arith) (omega arith) (omega arith))

pub returns-then-y-x : goal.returns-then-y-x
returns-then-y-x c =
    let a = c.args in
    sym (c.loop-i.invariant.order_is ∙ order-greater a.a.now a.b.now c.loop-i.i (omega arith) (omega arith) (omega arith))

pub loop-i-preserved : goal.loop-i-preserved
loop-i-preserved c =
    let a = c.args in
    record {
      first = omega arith;
      second = omega arith;
      order_is =
          c.loop-i.invariant.order_is
          ∙ order-next a.a.now a.b.now c.loop-i.i (omega arith) (omega arith) (omega arith) (omega arith);
    }

pub returns-then-i-b : goal.returns-then-i-b
returns-then-i-b c =
    let a = c.args in
    sym (c.loop-i.invariant.order_is ∙ order-shorter a.a.now a.b.now c.loop-i.i (omega arith) (omega arith))

pub returns-else-i-b : goal.returns-else-i-b
returns-else-i-b c =
    let a = c.args in
    sym (c.loop-i.invariant.order_is ∙ order-end a.a.now a.b.now c.loop-i.i (omega arith) (omega arith))
