-- `packed_queue::entry_size` meets its contract: a test after the other.
-- Assumes nothing.
use native.Mathlib.Omega.{arith}
use Rattle.packed_queue.proofs.WalkLaws.{entry-none, entry-cut, entry-told, entry-not}
use Rattle.packed_queue.proofs.entry_size.Goals as goal

pub returns-then-s-at-lt-LENGTH : goal.returns-then-s-at-lt-LENGTH
returns-then-s-at-lt-LENGTH c = entry-none c.args.s.now c.args.at c.requires c.if-s-at-lt-LENGTH.true

pub returns-then-s-from : goal.returns-then-s-from
returns-then-s-from c =
    entry-cut c.args.s.now c.args.at c.requires c.read_u16-len.result c.read_u16-len.ensures (omega (arith, c.requires, c.if-s-at-lt-LENGTH.false)) c.if-s-from.true

pub returns-then-is_whole : goal.returns-then-is_whole
returns-then-is_whole c =
    entry-told c.args.s.now c.args.at c.requires c.read_u16-len.result c.read_u16-len.ensures
    (omega (arith, c.requires, c.if-s-at-lt-LENGTH.false, c.if-s-from.false)) c.is_whole.ensures c.if-is_whole.true

pub returns-else-is_whole : goal.returns-else-is_whole
returns-else-is_whole c =
    entry-not c.args.s.now c.args.at c.requires c.read_u16-len.result c.read_u16-len.ensures
    (omega (arith, c.requires, c.if-s-at-lt-LENGTH.false, c.if-s-from.false)) c.is_whole.ensures c.if-is_whole.false
