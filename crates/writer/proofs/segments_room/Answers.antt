-- `segments_room` meets its contract. The invariant is `Counted` of proofs/FieldLaws; the measure is how many records are left.
-- Assumes nothing.
use Prim.Native.Nat.{◌+◌, ◌≤◌}
use native.Mathlib.Omega.{arith}
use mathlib.Core.Path.{refl}
use lib.ListN.{length, drop}
use borrow.Author.Rules.{rules}
use Rattle.packed.specs.Assignment.{decode_segment, size_segment}
use Rattle.packed.proofs.AssignmentLaws.{rest-head}
use Rattle.writer.proofs.SizeLaws.{head-short}
use Rattle.writer.proofs.FieldLaws.{head-inside, message-short, counted_start, counted-beyond, counted_next, counted-end}
use Rattle.writer.proofs.segments_room.Goals.{In-loop-left}
use Rattle.writer.proofs.segments_room.Goals as goal

-- the record that is counted lies inside
inside : (c : In-loop-left) →
    let s = c.args.s.now in
    c.loop-left.p + size_segment (decode_segment (drop c.loop-left.p s)) ≤ length s
inside c =
    rest-head c.args.s.now c.loop-left.p c.loop-left.left _ c.loop-left-test.true refl c.loop-left.invariant.rest

pub loop-left-init : goal.loop-left-init
loop-left-init c =
    let a = c.args in
    counted_start a.path.now a.s.now a.at a.m a.limit c.requires

pub segment_size-len-requires : goal.segment_size-len-requires
segment_size-len-requires c = inside (goal.at.segment_size-len-requires c).In-loop-left

pub overflow_add-more : goal.overflow_add-more
overflow_add-more c =
    let a = c.args in
    omega (
      arith,
      c.well_formed,
      c.segment_size-len.ensures,
      c.part_head_size.ensures,
      head-short 2 c.segment_size-len.result,
      message-short a.s.now c.loop-left.p a.path.now (λ k. search rules),
    )

pub overflow_sub-limit : goal.overflow_sub-limit
overflow_sub-limit c = omega (arith, c.loop-left.invariant.within)

pub returns-then-limit-size : goal.returns-then-limit-size
returns-then-limit-size c =
    let a = c.args in
    counted-beyond a.path.now a.s.now a.at a.m a.limit c.loop-left.size c.loop-left.p c.loop-left.left c.loop-left.invariant
    c.segment_size-len.result c.part_head_size.result c.loop-left-test.true c.segment_size-len.ensures
    c.part_head_size.ensures c.if-limit-size.true

pub overflow_add-size : goal.overflow_add-size
overflow_add-size c = omega (arith, c.loop-left.invariant.within)

pub size_at-p-requires : goal.size_at-p-requires
size_at-p-requires c =
    head-inside c.args.s.now c.loop-left.p (inside (goal.at.size_at-p-requires c).In-loop-left)

pub overflow_add-p : goal.overflow_add-p
overflow_add-p c = omega (arith, c.well_formed, c.size_at-p.ensures, inside (goal.at.overflow_add-p c).In-loop-left)

pub loop-left-preserved : goal.loop-left-preserved
loop-left-preserved c =
    let a = c.args in
    counted_next a.path.now a.s.now a.at a.m a.limit c.loop-left.size c.loop-left.p c.loop-left.left c.loop-left.invariant
    c.segment_size-len.result c.part_head_size.result c.loop-left-test.true c.segment_size-len.ensures
    c.part_head_size.ensures c.size_at-p.result c.size_at-p.ensures c.if-limit-size.false

pub returns : goal.returns
returns c =
    let a = c.args in
    counted-end a.path.now a.s.now a.at a.m a.limit c.loop-left.size c.loop-left.p c.loop-left.left c.loop-left.invariant (omega arith)
