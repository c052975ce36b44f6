-- `churn::next_mark` meets its contract: each arm is a case of `next_mark`.
-- Assumes nothing.
use mathlib.Core.Path.{sym}
use borrow.Author.Rules.{rules}
use Rattle.churn.proofs.CountLaws.{next_up, next-over}
use Rattle.churn.proofs.next_mark.Goals as goal

pub returns-then-mark-lt511 : goal.returns-then-mark-lt511
returns-then-mark-lt511 c = let a = c.args in (sym (next_up a.mark c.if-mark-lt511.true), search rules)

pub returns-else-mark-lt511 : goal.returns-else-mark-lt511
returns-else-mark-lt511 c = let a = c.args in (sym (next-over a.mark c.if-mark-lt511.false), search rules)
