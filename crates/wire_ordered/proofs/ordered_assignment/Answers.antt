-- `ordered_assignment` meets its contract: field 1, then segments that are ordered.
-- The invariant: the fields up to `at` have no fault (`Passed`). The measure is the bytes left. Assumes nothing.
use native.Mathlib.Omega.{arith}
use mathlib.Core.Path.{refl, subst}
use mathlib.Core.Bool.{false≢true}
use Rattle.wire_schema.specs.Schema.{value_for}
use Rattle.wire_ordered.specs.Ordered.{PartField, PartIs}
use Rattle.wire_ordered.proofs.OrderedLaws.{assignment-start, passed-message, passed-end}
use Rattle.wire_ordered.proofs.ordered_assignment.Goals.{In-Some}
use Rattle.wire_ordered.proofs.ordered_assignment.Goals as goal

-- field 2 is there
found : (c : In-Some)
    → PartField 2 c.args.s.now
    c.loop-at.at c.in-Some.from c.in-Some.to
found c = subst (PartIs 2 c.args.s.now c.loop-at.at) c.in-Some.is c.part_at.ensures

pub loop-at-init : goal.loop-at-init
loop-at-init c = assignment-start c.args.s.now (c.number_end-at.ensures (omega arith))

pub loop-at-preserved : goal.loop-at-preserved
unfolding value_for
loop-at-preserved c =
    passed-message c.loop-at.invariant refl
    (found (goal.at.loop-at-preserved c).In-Some) (c.ordered_segment.ensures (c.if-not-ordered_segment.false))

pub returns : goal.returns
returns c = λ e. passed-end c.loop-at.invariant c.loop-at-test.false

pub returns-then-at-eq0 : goal.returns-then-at-eq0
returns-then-at-eq0 c = λ e. absurd (false≢true e)

pub returns-in_default : goal.returns-in_default
returns-in_default c = λ e. absurd (false≢true e)

pub slice_bounds-ordered_segment-count : goal.slice_bounds-ordered_segment-count
slice_bounds-ordered_segment-count c = let h = found (goal.at.slice_bounds-ordered_segment-count c).In-Some in omega arith

pub slice_bounds-ordered_segment-start : goal.slice_bounds-ordered_segment-start
slice_bounds-ordered_segment-start c = let h = found (goal.at.slice_bounds-ordered_segment-start c).In-Some in omega arith

pub slice_bounds-ordered_segment-end : goal.slice_bounds-ordered_segment-end
slice_bounds-ordered_segment-end c = let h = found (goal.at.slice_bounds-ordered_segment-end c).In-Some in omega arith

pub returns-then-not-ordered_segment : goal.returns-then-not-ordered_segment
returns-then-not-ordered_segment c = λ e. absurd (false≢true e)

pub loop-at-smaller : goal.loop-at-smaller
loop-at-smaller c = let h = found (goal.at.loop-at-smaller c).In-Some in omega arith
