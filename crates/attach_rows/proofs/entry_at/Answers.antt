-- `log_rows::entry_at` meets its contract: the numbers that were read are the entry of 72 bits.
-- Assumes nothing.
use borrow.Author.Rules.{rules}
use Rattle.attach_rows.proofs.EntryLaws.{entry-low, entry-high}
use Rattle.attach_rows.proofs.entry_at.Goals as goal

pub returns-then-high-lt-TOP : goal.returns-then-high-lt-TOP
returns-then-high-lt-TOP c = let w = c in
    let r = w in
    let a = r.args in
    entry-low a.log.now a.at r.requires r.read_u64-high.result w.wide-low.result
    r.read_u64-high.ensures w.wide-low.ensures.value
    (search rules) w.wide-low.ensures.upper_bound c.if-high-lt-TOP.true

pub returns-else-high-lt-TOP : goal.returns-else-high-lt-TOP
returns-else-high-lt-TOP c = let w = c in
    let r = w in
    let a = r.args in
    entry-high a.log.now a.at r.requires r.read_u64-high.result w.wide-low.result
    r.read_u64-high.ensures w.wide-low.ensures.value
    (search rules) w.wide-low.ensures.upper_bound c.if-high-lt-TOP.false
