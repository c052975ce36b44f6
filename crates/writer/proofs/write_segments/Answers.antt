-- `write_segments` meets its contract. The invariant: the fields of the records that are left are left to write (`Writing` of
-- proofs/WritingLaws). The measure is how many those are. Assumes nothing.
use Prim.Native.Nat.{ℕ, ◌+◌, ◌-◌, ◌≤◌}
use native.Mathlib.Omega.{arith}
use mathlib.Core.Path.{refl}
use mathlib.Core.List.{List, []}
use lib.ListN.{length, drop}
use Rattle.packed.specs.Assignment.{decode_segment, decode_segments, size_segment}
use Rattle.packed.proofs.AssignmentLaws.{rest-head, rest-next}
use Rattle.writer_message.specs.Message.{segment_fields}
use Rattle.writer.proofs.WritingLaws.{Writing, writing_start, writing-as, writing-room, writing-next, writing-end}
use Rattle.writer.proofs.FieldLaws.{head-inside, field_pieces, fields_at, fields-none}
use Rattle.writer.proofs.write_segments.Goals.{In-loop-left}
use Rattle.writer.proofs.write_segments.Goals as goal

abbrev pieces : In-loop-left → List (List ℕ)
pieces c =
    let a = c.args in
    let z = size_segment (decode_segment (drop c.loop-left.p a.s.now)) in
    field_pieces a.path.now a.s.now c.loop-left.p (c.loop-left.p + z) (c.loop-left.left - 1)

-- so many of the first record's pieces are gone, and the other records are left
abbrev Goes : In-loop-left → List ℕ → ℕ → ℕ → Type 0
Goes c now at gone =
    let a = c.args in
    let all = segment_fields a.path.now (decode_segments a.m (drop a.at a.s.now)) in
    Writing a.out.now a.to all now at (drop gone (pieces c))

all_left : (c : In-loop-left) → Goes c c.loop-left.out c.loop-left.next 0
all_left c =
    let a = c.args in
    writing-as (pieces c) (fields_at a.path.now a.s.now c.loop-left.p c.loop-left.left _ c.loop-left-test.true refl) c.loop-left.invariant.1

-- the record that is written lies inside
inside : (c : In-loop-left) →
    let s = c.args.s.now in
    c.loop-left.p + size_segment (decode_segment (drop c.loop-left.p s)) ≤ length s
inside c =
    rest-head c.args.s.now c.loop-left.p c.loop-left.left _ c.loop-left-test.true refl c.loop-left.invariant.0

pub loop-left-init : goal.loop-left-init
loop-left-init c = (c.requires.rest, writing_start c.args.out.now c.args.to _ c.requires.s_in_bounds)

pub segment_size-len-requires : goal.segment_size-len-requires
segment_size-len-requires c = inside (goal.at.segment_size-len-requires c).In-loop-left

pub write_part_head-next-requires : goal.write_part_head-next-requires
write_part_head-next-requires c =
    let e = c.segment_size-len.ensures in
    (omega arith, rw e (writing-room (all_left (goal.at.write_part_head-next-requires c).In-loop-left)))

pub write_segment-next-requires : goal.write_segment-next-requires
write_segment-next-requires c =
    let k = (goal.at.write_segment-next-requires c).In-loop-left in
    let e = c.segment_size-len.ensures in
    let head : Goes k c.write_part_head-next.new.out c.write_part_head-next.result 1 = writing-next (all_left k) _ _ (rw e at c.write_part_head-next.ensures) in
    record { s_in_bounds = inside k; s_in_bounds_2 = writing-room head }

pub size_at-p-requires : goal.size_at-p-requires
size_at-p-requires c =
    head-inside c.args.s.now c.loop-left.p (inside (goal.at.size_at-p-requires c).In-loop-left)

pub overflow_add-p : goal.overflow_add-p
overflow_add-p c =
    omega (arith, c.well_formed, c.size_at-p.ensures, inside (goal.at.overflow_add-p c).In-loop-left)

pub overflow_sub-left : goal.overflow_sub-left
overflow_sub-left c = omega (arith, c.loop-left-test.true)

pub loop-left-smaller : goal.loop-left-smaller
loop-left-smaller c = omega (arith, c.loop-left-test.true)

pub loop-left-preserved : goal.loop-left-preserved
loop-left-preserved c =
    let k = (goal.at.loop-left-preserved c).In-loop-left in
    let e = c.segment_size-len.ensures in
    let head : Goes k c.write_part_head-next.new.out c.write_part_head-next.result 1 = writing-next (all_left k) _ _ (rw e at c.write_part_head-next.ensures) in
    let segment : Goes k c.write_segment-next.new.out c.write_segment-next.result 2 = writing-next head _ _ c.write_segment-next.ensures in
    let s = c.args.s.now in
    let z = c.size_at-p.ensures in
    (rest-next s c.loop-left.p c.loop-left.left c.size_at-p.result c.loop-left-test.true z c.loop-left.invariant.0, rw z segment)

pub shape_of-out : goal.shape_of-out
shape_of-out c = c.loop-left.invariant.1.long

pub returns : goal.returns
returns c =
    let a = c.args in
    writing-end (writing-as [] (fields-none a.path.now a.s.now c.loop-left.p c.loop-left.left (omega arith)) c.loop-left.invariant.1)
