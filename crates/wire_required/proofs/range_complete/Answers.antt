-- `range_complete` meets its contract. The invariant: what is found, with what is left, is all (`RangeLeft`). The measure is what is left of the range.
-- Assumes nothing.
use Rattle.std.specs.Prelude.{Option, Some}
use native.Mathlib.Omega.{arith}
use mathlib.Core.Path.{◌≡◌, sym, ap, ◌∙◌}
use Rattle.wire_values.specs.declared.Front.{Front}
use Rattle.wire_values.proofs.FrontLaws.{PartAt, FrontAt, front_at, numbers-end}
use Rattle.wire_required.proofs.LookLaws.{range-start, range-number, range-passed, range-done}
use Rattle.wire_required.proofs.range_complete.Goals.{After-read_front}
use Rattle.wire_required.proofs.range_complete.Goals as goal

front : (c : After-read_front) (q : Option Front) → c.read_front.result ≡ q → FrontAt (c.args.p.now) (c.loop-at.at) q
front c q e = front_at _ _ c.loop-at-test.true q (sym c.read_front.ensures ∙ e)

pub loop-at-init : goal.loop-at-init
loop-at-init c =
    range-start _

pub returns-in-None : goal.returns-in-None
returns-in-None c =
    let q = front (goal.at.returns-in-None c).After-read_front _ c.in-None.is in
    c.both.ensures ∙ range-done c.loop-at.invariant q.numbers

pub overflow_add-at : goal.overflow_add-at
overflow_add-at c =
    let q = front (goal.at.overflow_add-at c).After-read_front _ (c.in-Some-Number.is ∙ ap Some c.in-Some-Number.field-0-is) in omega arith

pub loop-at-smaller-in-Some-Number : goal.loop-at-smaller-in-Some-Number
loop-at-smaller-in-Some-Number c =
    let q = front (goal.at.loop-at-smaller-in-Some-Number c).After-read_front _ (c.in-Some-Number.is ∙ ap Some c.in-Some-Number.field-0-is) in omega arith

pub loop-at-preserved-in-Some-Number : goal.loop-at-preserved-in-Some-Number
loop-at-preserved-in-Some-Number c =
    let q = front (goal.at.loop-at-preserved-in-Some-Number c).After-read_front _ (c.in-Some-Number.is ∙ ap Some c.in-Some-Number.field-0-is) in
    range-number c.loop-at.invariant q c.either-start.ensures c.either-end.ensures

pub overflow_add-begin : goal.overflow_add-begin
overflow_add-begin c =
    let q = (let it : (PartAt (c.args.p.now) (c.loop-at.at) c.in-Some-Part.field-0-0 c.in-Some-Part.from c.in-Some-Part.len) = front (goal.at.overflow_add-begin c).After-read_front _ (c.in-Some-Part.is ∙ ap Some c.in-Some-Part.field-0-is) in it) in omega arith

pub overflow_add-at-in-Some-Part : goal.overflow_add-at-in-Some-Part
overflow_add-at-in-Some-Part c =
    let q = (let it : (PartAt (c.args.p.now) (c.loop-at.at) c.in-Some-Part.field-0-0 c.in-Some-Part.from c.in-Some-Part.len) = front (goal.at.overflow_add-at-in-Some-Part c).After-read_front _ (c.in-Some-Part.is ∙ ap Some c.in-Some-Part.field-0-is) in it) in omega arith

pub loop-at-smaller-in-Some-Part : goal.loop-at-smaller-in-Some-Part
loop-at-smaller-in-Some-Part c =
    let q = (let it : (PartAt (c.args.p.now) (c.loop-at.at) c.in-Some-Part.field-0-0 c.in-Some-Part.from c.in-Some-Part.len) = front (goal.at.loop-at-smaller-in-Some-Part c).After-read_front _ (c.in-Some-Part.is ∙ ap Some c.in-Some-Part.field-0-is) in it) in omega arith

pub loop-at-preserved-in-Some-Part : goal.loop-at-preserved-in-Some-Part
loop-at-preserved-in-Some-Part c =
    let q = (let it : (PartAt (c.args.p.now) (c.loop-at.at) c.in-Some-Part.field-0-0 c.in-Some-Part.from c.in-Some-Part.len) = front (goal.at.loop-at-preserved-in-Some-Part c).After-read_front _ (c.in-Some-Part.is ∙ ap Some c.in-Some-Part.field-0-is) in it) in
    range-passed c.loop-at.invariant q.numbers

pub overflow_add-at-in-Some-Fixed : goal.overflow_add-at-in-Some-Fixed
overflow_add-at-in-Some-Fixed c =
    let q = front (goal.at.overflow_add-at-in-Some-Fixed c).After-read_front _ (c.in-Some-Fixed.is ∙ ap Some c.in-Some-Fixed.field-0-is) in omega arith

pub loop-at-smaller : goal.loop-at-smaller
loop-at-smaller c =
    let q = front (goal.at.loop-at-smaller c).After-read_front _ (c.in-Some-Fixed.is ∙ ap Some c.in-Some-Fixed.field-0-is) in omega arith

pub loop-at-preserved : goal.loop-at-preserved
loop-at-preserved c =
    let q = front (goal.at.loop-at-preserved c).After-read_front _ (c.in-Some-Fixed.is ∙ ap Some c.in-Some-Fixed.field-0-is) in
    range-passed c.loop-at.invariant q.numbers

pub returns : goal.returns
returns c = let l = c.loop-at in
    c.both-2.ensures ∙ range-done l.invariant (λ n. numbers-end n _ l.at (omega arith))
