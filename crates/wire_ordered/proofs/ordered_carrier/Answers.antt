-- `ordered_carrier` meets its contract: a number, an assignment that is ordered, and nothing behind it. Assumes nothing.
use native.Mathlib.Omega.{arith}
use mathlib.Core.Path.{subst}
use mathlib.Core.Bool.{false≢true}
use Rattle.wire_ordered.specs.Ordered.{PartField, PartIs}
use Rattle.wire_ordered.proofs.OrderedLaws.{carrier-ordered}
use Rattle.wire_ordered.proofs.ordered_carrier.Goals.{In-Some}
use Rattle.wire_ordered.proofs.ordered_carrier.Goals as goal

-- field n is there
found : (c : In-Some)
    → PartField c.args.n
    c.args.s.now
    c.number_end-at.result c.in-Some.from c.in-Some.to
found c = subst (PartIs c.args.n c.args.s.now c.number_end-at.result) c.in-Some.is c.part_at.ensures

pub returns : goal.returns
returns c = λ e.
    let q = c in
    let m = q.number_end-at.ensures (omega arith) in
    carrier-ordered _ _ m (found (goal.at.returns c).In-Some) (omega arith) (c.ordered_assignment.ensures e)

pub returns-then-at-eq0 : goal.returns-then-at-eq0
returns-then-at-eq0 c = λ e. absurd (false≢true e)

pub returns-in_default : goal.returns-in_default
returns-in_default c = λ e. absurd (false≢true e)

pub returns-then-to-s : goal.returns-then-to-s
returns-then-to-s c = λ e. absurd (false≢true e)

pub slice_bounds-ordered_assignment-count : goal.slice_bounds-ordered_assignment-count
slice_bounds-ordered_assignment-count c = let h = found (goal.at.slice_bounds-ordered_assignment-count c).In-Some in omega arith

pub slice_bounds-ordered_assignment-start : goal.slice_bounds-ordered_assignment-start
slice_bounds-ordered_assignment-start c = let h = found (goal.at.slice_bounds-ordered_assignment-start c).In-Some in omega arith

pub slice_bounds-ordered_assignment-end : goal.slice_bounds-ordered_assignment-end
slice_bounds-ordered_assignment-end c = let h = found (goal.at.slice_bounds-ordered_assignment-end c).In-Some in omega arith
