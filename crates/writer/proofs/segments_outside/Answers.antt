-- `segments_outside` meets its contract. The invariant is `Held` of proofs/OutsideLaws; the measure is how many records are left.
-- Assumes nothing.
use Prim.Native.Nat.{◌+◌, ◌≤◌}
use native.Mathlib.Omega.{arith}
use mathlib.Core.Path.{refl, sym, ◌∙◌}
use lib.ListN.{length, drop}
use Rattle.packed.specs.Assignment.{decode_segment, size_segment}
use Rattle.packed.proofs.AssignmentLaws.{rest-head}
use Rattle.writer.proofs.FieldLaws.{head-inside}
use Rattle.writer.proofs.OutsideLaws.{held_start, held_found, held_next, held-end}
use Rattle.writer.proofs.segments_outside.Goals.{In-loop-left}
use Rattle.writer.proofs.segments_outside.Goals as goal

-- the record at hand lies inside
inside : (c : In-loop-left) →
    let s = c.args.s.now in
    c.loop-left.p + size_segment (decode_segment (drop c.loop-left.p s)) ≤ length s
inside c =
    rest-head c.args.s.now c.loop-left.p c.loop-left.left _ c.loop-left-test.true refl c.loop-left.invariant.rest

pub loop-left-init : goal.loop-left-init
loop-left-init c = held_start _ _ _ c.requires

pub segment_outside-requires : goal.segment_outside-requires
segment_outside-requires c = inside (goal.at.segment_outside-requires c).In-loop-left

pub id_at-requires : goal.id_at-requires
id_at-requires c =
    omega (arith, head-inside c.args.s.now c.loop-left.p (inside (goal.at.id_at-requires c).In-loop-left))

pub returns-in-Some : goal.returns-in-Some
returns-in-Some c =
    held_found c.loop-left.invariant c.loop-left-test.true (sym c.in-Some.is ∙ c.segment_outside.ensures) c.id_at.ensures

pub size_at-p-requires : goal.size_at-p-requires
size_at-p-requires c =
    head-inside c.args.s.now c.loop-left.p (inside (goal.at.size_at-p-requires c).In-loop-left)

pub overflow_add-p : goal.overflow_add-p
overflow_add-p c =
    omega (arith, c.well_formed, c.size_at-p.ensures, inside (goal.at.overflow_add-p c).In-loop-left)

pub overflow_sub-left : goal.overflow_sub-left
overflow_sub-left c = omega (arith, c.loop-left-test.true)

pub loop-left-smaller : goal.loop-left-smaller
loop-left-smaller c = omega (arith, c.loop-left-test.true)

pub loop-left-preserved : goal.loop-left-preserved
loop-left-preserved c =
    held_next c.loop-left.invariant c.loop-left-test.true (sym c.in_default.is ∙ c.segment_outside.ensures) _ c.size_at-p.ensures

pub returns : goal.returns
returns c = held-end c.loop-left.invariant (omega (arith, c.loop-left-test.false))
