-- `segment_complete` meets its contract. The invariant: what is found, with what is left, is all (`SegmentLeft`). The measure is what is left of the segment.
-- Assumes nothing.
use Rattle.std.specs.Prelude.{Option, Some}
use Prim.Native.Nat.{◌+◌}
use native.Mathlib.Nat.{add-sub_cancel_left}
use native.Mathlib.Omega.{arith}
use mathlib.Core.Path.{◌≡◌, sym, ◌∙◌, ap}
use mathlib.Core.Bool.{Bool, true, cond}
use lib.ListN.{take, drop}
use lib.Dec.{eqb}
use Rattle.wire.specs.Fields.{fields_of}
use Rattle.wire_values.specs.declared.Front.{Front}
use Rattle.wire_values.proofs.FrontLaws.{PartAt, FrontAt, front_at, numbers-end, parts-end}
use Rattle.wire_schema.specs.declared.MessageKind.TheVariants.{IntRange}
use Rattle.wire_schema.specs.Required.{complete_within}
use Rattle.wire_required.proofs.LookLaws.{segment-start, segment-number, segment-fixed, segment-part}
use Rattle.wire_required.proofs.LookLaws.{segment-missing, segment-done}
use Rattle.wire_required.proofs.segment_complete.Goals.{After-bucket_complete, After-read_front}
use Rattle.wire_required.proofs.segment_complete.Goals as goal

front : (c : After-read_front) (q : Option Front) → c.read_front.result ≡ q → FrontAt (c.args.s.now) (c.loop-at.at) q
front c q e = front_at _ _ c.loop-at-test.true q (sym c.read_front.ensures ∙ e)

-- the place where the part is looked at
whole : (c : After-bucket_complete) (b : Bool) → c.bucket_complete.result ≡ b
    → let k = c in cond (eqb k.in-Some-Part.f 5)
    (complete_within 1 IntRange (fields_of (take k.in-Some-Part.len (drop ((k.loop-at.at) + k.in-Some-Part.from) ((k.args.s.now)))))) true
    ≡ b
whole c b e =
    let k = c in
    rw (add-sub_cancel_left ((k.loop-at.at) + k.in-Some-Part.from) k.in-Some-Part.len) at (sym c.bucket_complete.ensures ∙ e)

pub loop-at-preserved-in-Some-Number : goal.loop-at-preserved-in-Some-Number
loop-at-preserved-in-Some-Number c =
    let k = c in
    let q = front (goal.at.loop-at-preserved-in-Some-Number c).After-read_front _ (k.in-Some-Number.is ∙ ap Some k.in-Some-Number.field-0-is) in
    segment-number k.loop-at.invariant q
    c.either-id.ensures c.either-start.ensures c.either-end.ensures

pub returns-then-not-bucket_complete : goal.returns-then-not-bucket_complete
returns-then-not-bucket_complete c =
    let k = c in
    segment-missing k.loop-at.invariant ((let it : (PartAt (k.args.s.now) (k.loop-at.at) k.in-Some-Part.f k.in-Some-Part.from k.in-Some-Part.len) = front (goal.at.returns-then-not-bucket_complete c).After-read_front _ (k.in-Some-Part.is ∙ ap Some k.in-Some-Part.field-0-is) in it)) (whole (goal.at.returns-then-not-bucket_complete c).After-bucket_complete _ (c.if-not-bucket_complete.true))

pub loop-at-preserved-in-Some-Part : goal.loop-at-preserved-in-Some-Part
loop-at-preserved-in-Some-Part c =
    let b = c in
    let k = b in
    segment-part k.loop-at.invariant ((let it : (PartAt (k.args.s.now) (k.loop-at.at) k.in-Some-Part.f k.in-Some-Part.from k.in-Some-Part.len) = front (goal.at.loop-at-preserved-in-Some-Part c).After-read_front _ (k.in-Some-Part.is ∙ ap Some k.in-Some-Part.field-0-is) in it)) (whole (goal.at.loop-at-preserved-in-Some-Part c).After-bucket_complete _ (c.if-not-bucket_complete.false)) c.either-topic.ensures

pub loop-at-init : goal.loop-at-init
loop-at-init c = segment-start _

pub returns-in-None : goal.returns-in-None
returns-in-None c = let q = front (goal.at.returns-in-None c).After-read_front _ c.in-None.is in
    c.all_four.ensures ∙ segment-done c.loop-at.invariant q.numbers q.parts

pub overflow_add-at : goal.overflow_add-at
overflow_add-at c = let k = c in let q = front (goal.at.overflow_add-at c).After-read_front _ (k.in-Some-Number.is ∙ ap Some k.in-Some-Number.field-0-is) in omega arith

pub loop-at-smaller-in-Some-Number : goal.loop-at-smaller-in-Some-Number
loop-at-smaller-in-Some-Number c = let k = c in let q = front (goal.at.loop-at-smaller-in-Some-Number c).After-read_front _ (k.in-Some-Number.is ∙ ap Some k.in-Some-Number.field-0-is) in omega arith

pub overflow_add-begin : goal.overflow_add-begin
overflow_add-begin c = let q = (let it : (PartAt (c.args.s.now) (c.loop-at.at) c.in-Some-Part.f c.in-Some-Part.from c.in-Some-Part.len) = front (goal.at.overflow_add-begin c).After-read_front _ (c.in-Some-Part.is ∙ ap Some c.in-Some-Part.field-0-is) in it) in omega arith

pub overflow_add-at-in-Some-Part : goal.overflow_add-at-in-Some-Part
overflow_add-at-in-Some-Part c = let q = (let it : (PartAt (c.args.s.now) (c.loop-at.at) c.in-Some-Part.f c.in-Some-Part.from c.in-Some-Part.len) = front (goal.at.overflow_add-at-in-Some-Part c).After-read_front _ (c.in-Some-Part.is ∙ ap Some c.in-Some-Part.field-0-is) in it) in omega arith

pub slice_bounds-bucket_complete-count : goal.slice_bounds-bucket_complete-count
slice_bounds-bucket_complete-count c = let q = (let it : (PartAt (c.args.s.now) (c.loop-at.at) c.in-Some-Part.f c.in-Some-Part.from c.in-Some-Part.len) = front (goal.at.slice_bounds-bucket_complete-count c).After-read_front _ (c.in-Some-Part.is ∙ ap Some c.in-Some-Part.field-0-is) in it) in omega arith

pub slice_bounds-bucket_complete-start : goal.slice_bounds-bucket_complete-start
slice_bounds-bucket_complete-start c = let q = (let it : (PartAt (c.args.s.now) (c.loop-at.at) c.in-Some-Part.f c.in-Some-Part.from c.in-Some-Part.len) = front (goal.at.slice_bounds-bucket_complete-start c).After-read_front _ (c.in-Some-Part.is ∙ ap Some c.in-Some-Part.field-0-is) in it) in omega arith

pub slice_bounds-bucket_complete-end : goal.slice_bounds-bucket_complete-end
slice_bounds-bucket_complete-end c = let q = (let it : (PartAt (c.args.s.now) (c.loop-at.at) c.in-Some-Part.f c.in-Some-Part.from c.in-Some-Part.len) = front (goal.at.slice_bounds-bucket_complete-end c).After-read_front _ (c.in-Some-Part.is ∙ ap Some c.in-Some-Part.field-0-is) in it) in omega arith

pub loop-at-smaller-in-Some-Part : goal.loop-at-smaller-in-Some-Part
loop-at-smaller-in-Some-Part c = let q = (let it : (PartAt (c.args.s.now) (c.loop-at.at) c.in-Some-Part.f c.in-Some-Part.from c.in-Some-Part.len) = front (goal.at.loop-at-smaller-in-Some-Part c).After-read_front _ (c.in-Some-Part.is ∙ ap Some c.in-Some-Part.field-0-is) in it) in omega arith

pub overflow_add-at-in-Some-Fixed : goal.overflow_add-at-in-Some-Fixed
overflow_add-at-in-Some-Fixed c = let q = front (goal.at.overflow_add-at-in-Some-Fixed c).After-read_front _ (c.in-Some-Fixed.is ∙ ap Some c.in-Some-Fixed.field-0-is) in omega arith

pub loop-at-smaller : goal.loop-at-smaller
loop-at-smaller c = let q = front (goal.at.loop-at-smaller c).After-read_front _ (c.in-Some-Fixed.is ∙ ap Some c.in-Some-Fixed.field-0-is) in omega arith

pub loop-at-preserved : goal.loop-at-preserved
loop-at-preserved c = let q = front (goal.at.loop-at-preserved c).After-read_front _ (c.in-Some-Fixed.is ∙ ap Some c.in-Some-Fixed.field-0-is) in
    segment-fixed c.loop-at.invariant q

pub returns : goal.returns
returns c = let l = c.loop-at in
    c.all_four-2.ensures
    ∙ segment-done l.invariant (λ n. numbers-end n _ l.at (omega arith)) (λ n. parts-end n _ l.at (omega arith))
