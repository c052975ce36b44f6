-- `next_part` meets its contract. The invariant: the parts of the field from `at` on, and their places, are those from `from` on.
-- The measure is what is left of the message; each front stands inside it. Assumes nothing.
use Rattle.std.specs.Prelude.{Option, Some}
use Prim.Native.Nat.{◌+◌}
use native.Mathlib.Omega.{arith}
use mathlib.Core.Path.{◌≡◌, refl, sym, ◌∙◌, ap}
use Rattle.wire_values.specs.declared.Front.{Front}
use Rattle.wire_values.specs.Places.{front_size, places_by, places_from}
use Rattle.wire_values.proofs.FrontLaws.{FrontAt, front_at, parts-end, part_same, part-other}
use Rattle.wire_values.proofs.TextLaws.{places-at, place_same, place_other}
use Rattle.wire_values.proofs.next_part.Goals.{After-read_front}
use Rattle.wire_values.proofs.next_part.Goals as goal

front : (c : After-read_front) (q : Option Front) → c.read_front.result ≡ q
    → FrontAt c.args.s.now c.loop-at.at q
front c q e = front_at _ _ c.loop-at-test.true q (sym c.read_front.ensures ∙ e)

places : (c : After-read_front) (q : Option Front) → c.read_front.result ≡ q
    → let s = c.args.s.now in
    let n = c.args.n in
    let at = c.loop-at.at in
    places_from n s at ≡ places_by n at q (places_from n s (at + front_size q))
places c q e = places-at _ _ c.loop-at-test.true _ q (sym c.read_front.ensures ∙ e)

pub loop-at-init : goal.loop-at-init
loop-at-init c = (omega arith, refl, refl)

pub returns-in_err-size : goal.returns-in_err-size
returns-in_err-size c =
    let q = front (goal.at.returns-in_err-size c).After-read_front _ c.in_err-size.was in
    rw c.from_residual.ensures (c.loop-at.invariant.1 ∙ q.parts _)

pub overflow_add-at : goal.overflow_add-at
overflow_add-at c = let q = front (goal.at.overflow_add-at c).After-read_front _ (c.in_ok-size.was ∙ ap Some c.in-Number.is) in omega arith

pub loop-at-smaller-in-Number : goal.loop-at-smaller-in-Number
loop-at-smaller-in-Number c = let q = front (goal.at.loop-at-smaller-in-Number c).After-read_front _ (c.in_ok-size.was ∙ ap Some c.in-Number.is) in omega arith

pub loop-at-preserved-in-Number : goal.loop-at-preserved-in-Number
loop-at-preserved-in-Number c =
    let q = front (goal.at.loop-at-preserved-in-Number c).After-read_front _ (c.in_ok-size.was ∙ ap Some c.in-Number.is) in
    let i = c.loop-at.invariant in
    (omega arith, i.1 ∙ q.parts _, i.2 ∙ places (goal.at.loop-at-preserved-in-Number c).After-read_front _ (c.in_ok-size.was ∙ ap Some c.in-Number.is))

pub overflow_add-begin : goal.overflow_add-begin
overflow_add-begin c = let q = front (goal.at.overflow_add-begin c).After-read_front _ (c.in_ok-size.was ∙ ap Some c.in-Part.is) in omega arith

pub overflow_add-end : goal.overflow_add-end
overflow_add-end c = let q = front (goal.at.overflow_add-end c).After-read_front _ (c.in_ok-size.was ∙ ap Some c.in-Part.is) in omega arith

pub returns-then-f-n : goal.returns-then-f-n
returns-then-f-n c =
    let q = front (goal.at.returns-then-f-n c).After-read_front _ (c.in_ok-size.was ∙ ap Some c.in-Part.is) in
    let i = c.loop-at.invariant in
    let p = places (goal.at.returns-then-f-n c).After-read_front _ (c.in_ok-size.was ∙ ap Some c.in-Part.is) in
    (omega arith, refl, q.inside, i.1 ∙ part_same q _ c.if-f-n.true, i.2 ∙ place_same _ _ _ _ _ _ p c.if-f-n.true)

pub loop-at-smaller-in-Part : goal.loop-at-smaller-in-Part
loop-at-smaller-in-Part c = let q = front (goal.at.loop-at-smaller-in-Part c).After-read_front _ (c.in_ok-size.was ∙ ap Some c.in-Part.is) in omega arith

pub loop-at-preserved-in-Part : goal.loop-at-preserved-in-Part
loop-at-preserved-in-Part c =
    let q = front (goal.at.loop-at-preserved-in-Part c).After-read_front _ (c.in_ok-size.was ∙ ap Some c.in-Part.is) in
    let i = c.loop-at.invariant in
    let p = places (goal.at.loop-at-preserved-in-Part c).After-read_front _ (c.in_ok-size.was ∙ ap Some c.in-Part.is) in
    (omega arith, i.1 ∙ part-other q _ c.if-f-n.false, i.2 ∙ place_other _ _ _ _ _ _ p c.if-f-n.false)

pub overflow_add-at-in-Fixed : goal.overflow_add-at-in-Fixed
overflow_add-at-in-Fixed c = let q = front (goal.at.overflow_add-at-in-Fixed c).After-read_front _ (c.in_ok-size.was ∙ ap Some c.in-Fixed.is) in omega arith

pub loop-at-smaller : goal.loop-at-smaller
loop-at-smaller c = let q = front (goal.at.loop-at-smaller c).After-read_front _ (c.in_ok-size.was ∙ ap Some c.in-Fixed.is) in omega arith

pub loop-at-preserved : goal.loop-at-preserved
loop-at-preserved c =
    let q = front (goal.at.loop-at-preserved c).After-read_front _ (c.in_ok-size.was ∙ ap Some c.in-Fixed.is) in
    let i = c.loop-at.invariant in
    (omega arith, i.1 ∙ q.parts _, i.2 ∙ places (goal.at.loop-at-preserved c).After-read_front _ (c.in_ok-size.was ∙ ap Some c.in-Fixed.is))

pub returns : goal.returns
returns c = c.loop-at.invariant.1 ∙ parts-end _ _ c.loop-at.at (omega arith)
