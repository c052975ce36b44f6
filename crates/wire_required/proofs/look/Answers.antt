-- `look` meets its contract. The invariant: what is found, with what is left, is all (`PartLeft`). The measure is what is left of the part.
-- Assumes nothing.
use Rattle.std.specs.Prelude.{Option, Some}
use Prim.Native.Nat.{◌+◌}
use native.Mathlib.Nat.{add-sub_cancel_left}
use native.Mathlib.Omega.{arith}
use mathlib.Core.Path.{◌≡◌, sym, ap, ◌∙◌}
use mathlib.Core.Bool.{Bool, ◌&&◌}
use Rattle.wire_values.specs.declared.Front.{Front}
use Rattle.wire_values.proofs.FrontLaws.{PartAt, FrontAt, front_at, numbers-end, parts-end}
use Rattle.wire_required.proofs.LookLaws.{part-start, part-number, part-fixed, part-segment, part-done}
use Rattle.wire_required.proofs.look.Goals.{After-read_front}
use Rattle.wire_required.proofs.look.Goals as goal

front : (c : After-read_front) (q : Option Front) → c.read_front.result ≡ q → FrontAt (c.args.s.now) (c.loop-at.at) q
front c q e = front_at _ _ c.loop-at-test.true q (sym c.read_front.ensures ∙ e)

pub loop-at-preserved-in-Some-Number : goal.loop-at-preserved-in-Some-Number
loop-at-preserved-in-Some-Number c =
    let q = front (goal.at.loop-at-preserved-in-Some-Number c).After-read_front _ (c.in-Some-Number.is ∙ ap Some c.in-Some-Number.field-0-is) in
    part-number c.loop-at.invariant q c.either-epoch.ensures

pub loop-at-preserved-in-Some-Part : goal.loop-at-preserved-in-Some-Part
loop-at-preserved-in-Some-Part c =
    let k = c in
    let e = rw (add-sub_cancel_left (k.loop-at.at + k.in-Some-Part.from) k.in-Some-Part.len) at c.part_complete.ensures in
    part-segment k.loop-at.invariant ((let it : (PartAt (k.args.s.now) (k.loop-at.at) k.in-Some-Part.f k.in-Some-Part.from k.in-Some-Part.len) = front (goal.at.loop-at-preserved-in-Some-Part c).After-read_front _ (k.in-Some-Part.is ∙ ap Some k.in-Some-Part.field-0-is) in it))
    (c.both-segments.ensures ∙ ap (λ (b : Bool). k.loop-at.segments && b) e)

pub loop-at-init : goal.loop-at-init
loop-at-init c = part-start _ _ _

pub returns-in-None : goal.returns-in-None
returns-in-None c = let q = front (goal.at.returns-in-None c).After-read_front _ c.in-None.is in
    part-done c.loop-at.invariant (q.numbers 1) (q.parts 2)

pub overflow_add-at : goal.overflow_add-at
overflow_add-at c = let q = front (goal.at.overflow_add-at c).After-read_front _ (c.in-Some-Number.is ∙ ap Some c.in-Some-Number.field-0-is) in omega arith

pub loop-at-smaller-in-Some-Number : goal.loop-at-smaller-in-Some-Number
loop-at-smaller-in-Some-Number c = let q = front (goal.at.loop-at-smaller-in-Some-Number c).After-read_front _ (c.in-Some-Number.is ∙ ap Some c.in-Some-Number.field-0-is) in omega arith

pub overflow_add-begin : goal.overflow_add-begin
overflow_add-begin c = let q = (let it : (PartAt (c.args.s.now) (c.loop-at.at) c.in-Some-Part.f c.in-Some-Part.from c.in-Some-Part.len) = front (goal.at.overflow_add-begin c).After-read_front _ (c.in-Some-Part.is ∙ ap Some c.in-Some-Part.field-0-is) in it) in omega arith

pub overflow_add-at-in-Some-Part : goal.overflow_add-at-in-Some-Part
overflow_add-at-in-Some-Part c = let q = (let it : (PartAt (c.args.s.now) (c.loop-at.at) c.in-Some-Part.f c.in-Some-Part.from c.in-Some-Part.len) = front (goal.at.overflow_add-at-in-Some-Part c).After-read_front _ (c.in-Some-Part.is ∙ ap Some c.in-Some-Part.field-0-is) in it) in omega arith

pub slice_bounds-part_complete-count : goal.slice_bounds-part_complete-count
slice_bounds-part_complete-count c = let q = (let it : (PartAt (c.args.s.now) (c.loop-at.at) c.in-Some-Part.f c.in-Some-Part.from c.in-Some-Part.len) = front (goal.at.slice_bounds-part_complete-count c).After-read_front _ (c.in-Some-Part.is ∙ ap Some c.in-Some-Part.field-0-is) in it) in omega arith

pub slice_bounds-part_complete-start : goal.slice_bounds-part_complete-start
slice_bounds-part_complete-start c = let q = (let it : (PartAt (c.args.s.now) (c.loop-at.at) c.in-Some-Part.f c.in-Some-Part.from c.in-Some-Part.len) = front (goal.at.slice_bounds-part_complete-start c).After-read_front _ (c.in-Some-Part.is ∙ ap Some c.in-Some-Part.field-0-is) in it) in omega arith

pub slice_bounds-part_complete-end : goal.slice_bounds-part_complete-end
slice_bounds-part_complete-end c = let q = (let it : (PartAt (c.args.s.now) (c.loop-at.at) c.in-Some-Part.f c.in-Some-Part.from c.in-Some-Part.len) = front (goal.at.slice_bounds-part_complete-end c).After-read_front _ (c.in-Some-Part.is ∙ ap Some c.in-Some-Part.field-0-is) in it) in omega arith

pub loop-at-smaller-in-Some-Part : goal.loop-at-smaller-in-Some-Part
loop-at-smaller-in-Some-Part c = let q = (let it : (PartAt (c.args.s.now) (c.loop-at.at) c.in-Some-Part.f c.in-Some-Part.from c.in-Some-Part.len) = front (goal.at.loop-at-smaller-in-Some-Part c).After-read_front _ (c.in-Some-Part.is ∙ ap Some c.in-Some-Part.field-0-is) in it) in omega arith

pub overflow_add-at-in-Some-Fixed : goal.overflow_add-at-in-Some-Fixed
overflow_add-at-in-Some-Fixed c = let q = front (goal.at.overflow_add-at-in-Some-Fixed c).After-read_front _ (c.in-Some-Fixed.is ∙ ap Some c.in-Some-Fixed.field-0-is) in omega arith

pub loop-at-smaller : goal.loop-at-smaller
loop-at-smaller c = let q = front (goal.at.loop-at-smaller c).After-read_front _ (c.in-Some-Fixed.is ∙ ap Some c.in-Some-Fixed.field-0-is) in omega arith

pub loop-at-preserved : goal.loop-at-preserved
loop-at-preserved c = let q = front (goal.at.loop-at-preserved c).After-read_front _ (c.in-Some-Fixed.is ∙ ap Some c.in-Some-Fixed.field-0-is) in
    part-fixed c.loop-at.invariant q

pub returns : goal.returns
returns c = let l = c.loop-at in
    part-done l.invariant (numbers-end 1 _ l.at (omega arith)) (parts-end 2 _ l.at (omega arith))
