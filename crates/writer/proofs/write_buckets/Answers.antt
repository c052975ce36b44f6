-- `write_buckets` meets its contract. The invariant: the fields of the buckets that are left are left to write (`Writing` of
-- proofs/WritingLaws). The measure is how many those are. Assumes nothing.
use Prim.Native.Nat.{ℕ, ◌+◌, ◌-◌}
use native.Mathlib.Omega.{arith}
use mathlib.Core.List.{List, []}
use lib.ListN.{drop}
use Rattle.packed.specs.Assignment.{decode_ranges}
use Rattle.writer_message.specs.Message.{bucket_fields}
use Rattle.writer.proofs.WritingLaws.{Writing, writing_start, writing-as, writing-room, writing-next, writing-end}
use Rattle.writer.proofs.FieldLaws.{bucket_pieces, buckets-at, buckets-none}
use Rattle.writer.proofs.write_buckets.Goals.{After-range_at-range}
use Rattle.writer.proofs.write_buckets.Goals as goal

-- so many of the first bucket's pieces are gone, and the other buckets are left
abbrev Goes : After-range_at-range → List ℕ → ℕ → ℕ → Type 0
Goes c now at gone =
    let a = c.args in
    Writing a.out.now a.to (bucket_fields (decode_ranges a.n (drop a.at a.s.now))) now at
    (drop gone (bucket_pieces c.range_at-range.result a.s.now (c.loop-left.p + 4) (c.loop-left.left - 1)))

all_left : (c : After-range_at-range) → Goes c c.loop-left.out c.loop-left.next 0
all_left c =
    let s = c.args.s.now in
    let r = c.range_at-range.result in
    writing-as (bucket_pieces r s (c.loop-left.p + 4) (c.loop-left.left - 1))
    (buckets-at s c.loop-left.p c.loop-left.left r c.loop-left-test.true c.range_at-range.ensures) c.loop-left.invariant.1

pub loop-left-init : goal.loop-left-init
loop-left-init c = (c.requires.n_in_bounds, writing_start c.args.out.now c.args.to _ c.requires.s_in_bounds)

pub range_at-range-requires : goal.range_at-range-requires
range_at-range-requires c = omega (arith, c.loop-left.invariant.0)

pub write_part_head-next-requires : goal.write_part_head-next-requires
write_part_head-next-requires c =
    (omega arith, rw c.range_size.ensures (writing-room (all_left (goal.at.write_part_head-next-requires c).After-range_at-range)))

pub write_number-next-requires : goal.write_number-next-requires
write_number-next-requires c =
    let k = (goal.at.write_number-next-requires c).After-range_at-range in
    let e = c.range_size.ensures in
    let head : Goes k c.write_part_head-next.new.out c.write_part_head-next.result 1 = writing-next (all_left k) _ _ (rw e at c.write_part_head-next.ensures) in
    (omega arith, writing-room head)

pub write_number-next-requires-in-loop-left : goal.write_number-next-requires-in-loop-left
write_number-next-requires-in-loop-left c =
    let k = (goal.at.write_number-next-requires-in-loop-left c).After-range_at-range in
    let e = c.range_size.ensures in
    let head : Goes k c.write_part_head-next.new.out c.write_part_head-next.result 1 = writing-next (all_left k) _ _ (rw e at c.write_part_head-next.ensures) in
    let start : Goes k c.write_number-next.new.out c.write_number-next.result 2 = writing-next head _ _ c.write_number-next.ensures in
    (omega arith, writing-room start)

pub overflow_add-p : goal.overflow_add-p
overflow_add-p c = omega (arith, c.well_formed, c.loop-left.invariant.0, c.loop-left-test.true)

pub overflow_sub-left : goal.overflow_sub-left
overflow_sub-left c = omega (arith, c.loop-left-test.true)

pub loop-left-smaller : goal.loop-left-smaller
loop-left-smaller c = omega (arith, c.loop-left-test.true)

pub loop-left-preserved : goal.loop-left-preserved
loop-left-preserved c =
    let k = (goal.at.loop-left-preserved c).After-range_at-range in
    let e = c.range_size.ensures in
    let head : Goes k c.write_part_head-next.new.out c.write_part_head-next.result 1 = writing-next (all_left k) _ _ (rw e at c.write_part_head-next.ensures) in
    let start : Goes k c.write_number-next.new.out c.write_number-next.result 2 = writing-next head _ _ c.write_number-next.ensures in
    let end : Goes k c.write_number-next-in-loop-left.new.out c.write_number-next-in-loop-left.result 3 = writing-next start _ _ c.write_number-next-in-loop-left.ensures in
    (omega (arith, c.loop-left.invariant.0, c.loop-left-test.true), end)

pub shape_of-out : goal.shape_of-out
shape_of-out c = c.loop-left.invariant.1.long

pub returns : goal.returns
returns c =
    let s = c.args.s.now in
    writing-end (writing-as [] (buckets-none s c.loop-left.p c.loop-left.left (omega arith)) c.loop-left.invariant.1)
