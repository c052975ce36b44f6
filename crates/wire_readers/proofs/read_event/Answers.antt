-- `read_event` meets its contract. The invariant: `event` is the last part of fields 2 and 3 so far, inside the message.
-- The measure is what is left of the message. Assumes nothing.
use Rattle.std.specs.Prelude.{Option, Some}
use native.Mathlib.Omega.{arith}
use mathlib.Core.Path.{◌≡◌, sym, ◌∙◌, ap}
use Rattle.wire_values.specs.declared.Front.{Front}
use Rattle.wire_values.specs.declared.Front.TheVariants.{Part}
use Rattle.wire_values.proofs.FrontLaws.{FrontAt, front_at}
use Rattle.wire_readers.proofs.EventLaws.{event-start, event-number, event-fixed, event-other, event-snapshot}
use Rattle.wire_readers.proofs.EventLaws.{event-diff, event-broken, event-done}
use Rattle.wire_readers.proofs.read_event.Goals.{After-read_front}
use Rattle.wire_readers.proofs.read_event.Goals as goal

front : (c : After-read_front) (q : Option Front) → c.read_front.result ≡ q
    → FrontAt c.args.m.now c.loop-at.at q
front c q e = front_at _ _ c.loop-at-test.true q (sym c.read_front.ensures ∙ e)

pub loop-at-init : goal.loop-at-init
loop-at-init c = event-start _

pub returns-in-None : goal.returns-in-None
returns-in-None c =
    let q = front (goal.at.returns-in-None c).After-read_front _ c.in-None.is in
    event-broken c.loop-at.invariant q

pub overflow_add-at : goal.overflow_add-at
overflow_add-at c = let q = front (goal.at.overflow_add-at c).After-read_front _ (c.in-Some-Number.is ∙ ap Some c.in-Some-Number.field-0-is) in omega arith

pub loop-at-smaller-in-Some-Number : goal.loop-at-smaller-in-Some-Number
loop-at-smaller-in-Some-Number c = let q = front (goal.at.loop-at-smaller-in-Some-Number c).After-read_front _ (c.in-Some-Number.is ∙ ap Some c.in-Some-Number.field-0-is) in omega arith

pub loop-at-preserved-in-Some-Number : goal.loop-at-preserved-in-Some-Number
loop-at-preserved-in-Some-Number c =
    let q = front (goal.at.loop-at-preserved-in-Some-Number c).After-read_front _ (c.in-Some-Number.is ∙ ap Some c.in-Some-Number.field-0-is) in
    event-number c.loop-at.invariant q

pub overflow_add-at-in-Some-Part : goal.overflow_add-at-in-Some-Part
overflow_add-at-in-Some-Part c = let q = (let it : (let m = c.args.m.now in FrontAt m c.loop-at.at (Some (Part c.in-Some-Part.f c.in-Some-Part.from c.in-Some-Part.len))) = front (goal.at.overflow_add-at-in-Some-Part c).After-read_front _ (c.in-Some-Part.is ∙ ap Some c.in-Some-Part.field-0-is) in it) in omega arith

pub overflow_add-at-in-Some-Part-2 : goal.overflow_add-at-in-Some-Part-2
overflow_add-at-in-Some-Part-2 c = let q = (let it : (let m = c.args.m.now in FrontAt m c.loop-at.at (Some (Part c.in-Some-Part.f c.in-Some-Part.from c.in-Some-Part.len))) = front (goal.at.overflow_add-at-in-Some-Part-2 c).After-read_front _ (c.in-Some-Part.is ∙ ap Some c.in-Some-Part.field-0-is) in it) in omega arith

pub loop-at-smaller-in-Some-Part : goal.loop-at-smaller-in-Some-Part
loop-at-smaller-in-Some-Part c = let q = (let it : (let m = c.args.m.now in FrontAt m c.loop-at.at (Some (Part c.in-Some-Part.f c.in-Some-Part.from c.in-Some-Part.len))) = front (goal.at.loop-at-smaller-in-Some-Part c).After-read_front _ (c.in-Some-Part.is ∙ ap Some c.in-Some-Part.field-0-is) in it) in omega arith

pub loop-at-preserved-in-Some-Part : goal.loop-at-preserved-in-Some-Part
loop-at-preserved-in-Some-Part c =
    let d = c in
    let q = (let it : (let m = d.args.m.now in FrontAt m d.loop-at.at (Some (Part d.in-Some-Part.f d.in-Some-Part.from d.in-Some-Part.len))) = front (goal.at.loop-at-preserved-in-Some-Part c).After-read_front _ (d.in-Some-Part.is ∙ ap Some d.in-Some-Part.field-0-is) in it) in
    let k = d.loop-at.invariant in
    (elim c.if-f-eq3.branch [ goal.then-f-eq3 w ↦ event-diff q _ _ k w.if-f-eq3.true (w.event-is ∙ d.diff_from-diff.ensures) | goal.else-f-eq3 w ↦ (elim c.if-f-eq2.branch [ goal.then-f-eq2 u ↦ event-snapshot q _ _ k u.if-f-eq2.true (w.event-is ∙ u.event-is ∙ d.snapshot_from-snapshot.ensures) | goal.else-f-eq2 u ↦ event-other q k u.if-f-eq2.false w.if-f-eq3.false (w.event-is ∙ u.event-is) ]) ])

pub overflow_add-at-in-Some-Fixed : goal.overflow_add-at-in-Some-Fixed
overflow_add-at-in-Some-Fixed c = let q = front (goal.at.overflow_add-at-in-Some-Fixed c).After-read_front _ (c.in-Some-Fixed.is ∙ ap Some c.in-Some-Fixed.field-0-is) in omega arith

pub loop-at-smaller : goal.loop-at-smaller
loop-at-smaller c = let q = front (goal.at.loop-at-smaller c).After-read_front _ (c.in-Some-Fixed.is ∙ ap Some c.in-Some-Fixed.field-0-is) in omega arith

pub loop-at-preserved : goal.loop-at-preserved
loop-at-preserved c =
    let q = front (goal.at.loop-at-preserved c).After-read_front _ (c.in-Some-Fixed.is ∙ ap Some c.in-Some-Fixed.field-0-is) in
    event-fixed c.loop-at.invariant q

pub returns : goal.returns
returns c = event-done c.loop-at.invariant (omega arith)
