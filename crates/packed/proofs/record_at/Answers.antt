-- `packed::record_at` meets its contract: at each return the tests that led there say which case of `record_read` holds.
-- Assumes nothing.
use native.Mathlib.Omega.{arith}
use lib.ListN.{drop}
use mathlib.Core.Path.{◌∙◌}
use Rattle.packed.specs.Assignment.{decode_segment}
use Rattle.packed.proofs.AssignmentLaws.{Seen, seen_size, size-least, record-short, record-reversed, record-told}
use Rattle.packed.proofs.record_at.Goals as goal
use Rattle.packed.proofs.record_at.Goals.{After-read_u16-count}

-- the numbers that were read are the record's
seen : (k : After-read_u16-count) → Seen k.args.s.now k.args.at k.read_u64-id.result k.range_at-range.result k.read_u16-count.result
seen k = record { id-is = k.read_u64-id.ensures; range-is = k.range_at-range.ensures; count-is = k.read_u16-count.ensures }

pub returns-then-end-at-lt-RECORD_HEAD : goal.returns-then-end-at-lt-RECORD_HEAD
returns-then-end-at-lt-RECORD_HEAD c =
    let a = c.args in
    record-short a.s.now a.at a.end (omega (arith, size-least (decode_segment (drop a.at a.s.now))))

pub returns-then-end-at : goal.returns-then-end-at
returns-then-end-at c =
    let a = c.args in
    record-short a.s.now a.at a.end
    (rw (seen_size a.s.now a.at c.read_u64-id.result c.range_at-range.result c.read_u16-count.result (seen (goal.at.returns-then-end-at c).After-read_u16-count)) (omega arith))

pub returns-then-range : goal.returns-then-range
returns-then-range c =
    let a = c.args in
    record-reversed a.s.now a.at c.read_u64-id.result c.range_at-range.result c.read_u16-count.result (seen (goal.at.returns-then-range c).After-read_u16-count)
    a.end c.if-range.true

pub returns : goal.returns
returns c =
    let a = c.args in
    c.then_some.ensures
    ∙ record-told a.s.now a.at c.read_u64-id.result c.range_at-range.result c.read_u16-count.result (seen (goal.at.returns c).After-read_u16-count) a.end
    c.if-range.false c.buckets_ok.result c.buckets_ok.ensures (omega arith)
