-- `ordered_range` meets its contract: two numbers, and nothing behind them. Assumes nothing.
use native.Mathlib.Omega.{arith}
use mathlib.Core.Bool.{false≢true}
use lib.ListN.{length}
use borrow.Author.Tests.{eqb-true}
use Rattle.wire_ordered.proofs.OrderedLaws.{range-ordered}
use Rattle.wire_ordered.proofs.ordered_range.Goals as goal

pub returns : goal.returns
returns c = λ e.
    let s = c.args.s.now in
    let m = c.number_end-start.ensures (omega arith) in
    let n = c.number_end-end.ensures (omega arith) in
    let h = eqb-true c.number_end-end.result (length s) e in
    range-ordered s m n (omega arith)

pub returns-then-start-eq0 : goal.returns-then-start-eq0
returns-then-start-eq0 c = λ e. absurd (false≢true e)

pub returns-then-end-eq0 : goal.returns-then-end-eq0
returns-then-end-eq0 c = λ e. absurd (false≢true e)
