-- `buckets_size` meets its contract. The invariant is `Sized` of proofs/FieldLaws; the measure is how many buckets are left.
-- Assumes nothing.
use Prim.Native.Nat.{◌+◌, ◌-◌}
use native.Mathlib.Omega.{arith}
use Rattle.writer.proofs.FieldLaws.{Sized, sized-start, sized-next, sized-end}
use Rattle.writer.proofs.buckets_size.Goals.{After-part_head_size}
use Rattle.writer.proofs.buckets_size.Goals as goal

turned : (c : After-part_head_size) →
    let a = c.args in
    let len = c.range_size-len.result in
    Sized a.s.now a.at a.n (c.loop-left.size + c.part_head_size.result + len) (c.loop-left.p + 4) (c.loop-left.left - 1)
turned c =
    let a = c.args in
    sized-next a.s.now a.at a.n c.loop-left.size c.loop-left.p c.loop-left.left c.loop-left.invariant c.range_at.result
    c.range_size-len.result c.part_head_size.result c.loop-left-test.true c.range_at.ensures
    c.range_size-len.ensures c.part_head_size.ensures

pub loop-left-init : goal.loop-left-init
loop-left-init c = let a = c.args in sized-start a.s.now a.at a.n c.requires.n_in_bounds

pub overflow_add-size : goal.overflow_add-size
overflow_add-size c = omega (arith, c.requires.n_bound, (turned (goal.at.overflow_add-size c).After-part_head_size).whole, (turned (goal.at.overflow_add-size c).After-part_head_size).short)

pub overflow_add-size-in-loop-left : goal.overflow_add-size-in-loop-left
overflow_add-size-in-loop-left c = omega (arith, c.requires.n_bound, (turned (goal.at.overflow_add-size-in-loop-left c).After-part_head_size).whole, (turned (goal.at.overflow_add-size-in-loop-left c).After-part_head_size).short)

pub overflow_add-p : goal.overflow_add-p
overflow_add-p c = omega (arith, c.well_formed)

pub loop-left-preserved : goal.loop-left-preserved
loop-left-preserved c = turned (goal.at.loop-left-preserved c).After-part_head_size

pub returns : goal.returns
returns c =
    let a = c.args in
    sized-end a.s.now a.at a.n c.loop-left.size c.loop-left.p c.loop-left.left c.loop-left.invariant (omega arith)
