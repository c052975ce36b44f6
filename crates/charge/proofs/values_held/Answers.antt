-- `charge::values_held` meets its contract: the record at the front, whether bytes are left over, and the count of
-- buckets pick the case of `holds_of`.
-- Assumes nothing.
use Prim.Native.Nat.{◌≤◌}
use native.Mathlib.Omega.{arith}
use mathlib.Core.Path.{sym, ap, ◌∙◌, subst}
use lib.ListN.{length}
use borrow.Author.Rules.{rules}
use Rattle.packed.proofs.AssignmentLaws.{record_is}
use Rattle.ranges_calls.specs.Calls.{values_in}
use Rattle.topic_types.specs.declared.KeyRange.{KeyRange}
use Rattle.charge.proofs.ChargeLaws.{holds-range, holds-buckets}
use Rattle.charge.proofs.ChargeLaws.{holds-bad, holds-longer, long-enough, all-inside, range-in-order, buckets-in-order}
use Rattle.charge.proofs.values_held.Goals as goal

pub returns-in_err-size : goal.returns-in_err-size
returns-in_err-size c = c.from_residual.ensures ∙ holds-bad c.args.segment.now c.in_err-size.ensures

pub returns-then-size-end : goal.returns-then-size-end
returns-then-size-end c =
    let l = c.args.segment.now in
    let i = c.in_ok-size.field-0-0 in
    let z = c.in_ok-size.size in
    let g = record_is l 0 (length l) i z c.in_ok-size.ensures in
    holds-longer l i z g c.if-size-end.true

pub read_u16-count-requires : goal.read_u16-count-requires
read_u16-count-requires c =
    let l = c.args.segment.now in
    let i = c.in_ok-size.field-0-0 in
    let z = c.in_ok-size.size in
    let g = record_is l 0 (length l) i z c.in_ok-size.ensures in
    long-enough l i z g c.if-size-end.false

pub range_at-requires : goal.range_at-requires
range_at-requires c =
    let l = c.args.segment.now in
    let i = c.in_ok-size.field-0-0 in
    let z = c.in_ok-size.size in
    let g = record_is l 0 (length l) i z c.in_ok-size.ensures in
    omega (arith, long-enough l i z g c.if-size-end.false)

pub range_length-requires : goal.range_length-requires
range_length-requires c =
    let l = c.args.segment.now in
    let i = c.in_ok-size.field-0-0 in
    let z = c.in_ok-size.size in
    let g = record_is l 0 (length l) i z c.in_ok-size.ensures in
    subst (λ (r : KeyRange). r.start ≤ r.end) (sym c.range_at.ensures)
    (range-in-order l i z g c.if-size-end.false c.read_u16-count.result c.read_u16-count.ensures)

pub lengths-requires : goal.lengths-requires
lengths-requires c =
    let l = c.args.segment.now in
    let i = c.in_ok-size.field-0-0 in
    let z = c.in_ok-size.size in
    let g = record_is l 0 (length l) i z c.in_ok-size.ensures in
    let n = c.read_u16-count.result in (
      all-inside l i z g c.if-size-end.false n c.read_u16-count.ensures,
      search rules,
      buckets-in-order l i z g c.if-size-end.false n c.read_u16-count.ensures,
    )

pub returns-then-count-eq0 : goal.returns-then-count-eq0
returns-then-count-eq0 c =
    let l = c.args.segment.now in
    let i = c.in_ok-size.field-0-0 in
    let z = c.in_ok-size.size in
    let g = record_is l 0 (length l) i z c.in_ok-size.ensures in
    holds-range l i z g c.if-size-end.false c.read_u16-count.result c.read_u16-count.ensures c.range_length.result c.if-count-eq0.true
    (c.range_length.ensures.0 ∙ ap (λ (r : KeyRange). values_in r) c.range_at.ensures)

pub returns-else-count-eq0 : goal.returns-else-count-eq0
returns-else-count-eq0 c =
    let l = c.args.segment.now in
    let i = c.in_ok-size.field-0-0 in
    let z = c.in_ok-size.size in
    let g = record_is l 0 (length l) i z c.in_ok-size.ensures in
    holds-buckets l i z g c.if-size-end.false c.read_u16-count.result c.read_u16-count.ensures c.lengths.result c.if-count-eq0.false
    c.lengths.ensures
