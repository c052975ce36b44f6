-- `segment_key::least_at` meets its contract: without buckets the start of the range, else the least in the row
-- (proofs/WalkLaws). Assumes nothing.
use native.Mathlib.Omega.{arith}
use mathlib.Core.Path.{◌∙◌}
use lib.ListN.{drop}
use Rattle.packed.specs.Assignment.{decode_segment}
use Rattle.packed.proofs.AssignmentLaws.{size-least}
use Rattle.key_in_segment.proofs.WalkLaws.{at_size, at-whole, at-bucketed}
use Rattle.key_in_segment.proofs.least_at.Goals as goal

pub range_at-range-requires : goal.range_at-range-requires
range_at-range-requires c = omega (arith, size-least (decode_segment (drop c.args.p c.args.s.now)))

pub read_u16-count-requires : goal.read_u16-count-requires
read_u16-count-requires c =
    let a = c.args in omega (arith, size-least (decode_segment (drop a.p a.s.now)))

pub returns-then-count-eq0 : goal.returns-then-count-eq0
returns-then-count-eq0 c =
    let n = c in
    let r = n in
    let b = r in
    at-whole b.args.s.now b.args.p r.range_at-range.result n.read_u16-count.result r.range_at-range.ensures n.read_u16-count.ensures b.requires.s_value c.if-count-eq0.true

pub least_in-requires : goal.least_in-requires
least_in-requires c =
    let n = c in
    let r = n in
    let a = r.args in
    omega (arith, at_size a.s.now a.p r.range_at-range.result n.read_u16-count.result r.range_at-range.ensures n.read_u16-count.ensures)

pub returns : goal.returns
returns c =
    let n = c in
    let r = n in
    let a = r.args in
    c.least_in.ensures
    ∙ at-bucketed a.s.now a.p r.range_at-range.result n.read_u16-count.result r.range_at-range.ensures n.read_u16-count.ensures c.if-count-eq0.false
