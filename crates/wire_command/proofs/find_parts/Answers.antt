-- `find_parts` meets its contract. The invariant: the parts before `at` are counted, and the last of them is the `length` bytes from `start` on
-- (`Held`). The measure is what is left of the message; each front stands inside it. Assumes nothing.
use Rattle.std.specs.Prelude.{Option, Some}
use native.Mathlib.Omega.{arith}
use mathlib.Core.Path.{◌≡◌, refl, sym, ◌∙◌, ap}
use Rattle.wire_values.specs.declared.Front.{Front}
use Rattle.wire_values.specs.declared.Front.TheVariants as front_of
use Rattle.wire_values.proofs.FrontLaws.{FrontAt, front_at}
use Rattle.wire_command.proofs.PlaceLaws.{held_start, held-end, held_on, held-broken, held-part, held-other}
use Rattle.wire_command.proofs.find_parts.Goals.{After-read_front}
use Rattle.wire_command.proofs.find_parts.Goals as goal

-- the place where the front is read
front : (c : After-read_front) (q : Option Front) → c.read_front.result ≡ q
    → FrontAt c.args.s.now c.loop-at.at q
front c q e = front_at _ _ c.loop-at-test.true q (sym c.read_front.ensures ∙ e)

pub loop-at-init : goal.loop-at-init
loop-at-init c = held_start _ _

pub returns-in-None : goal.returns-in-None
returns-in-None c = held-broken c.loop-at.invariant (sym c.read_front.ensures ∙ c.in-None.is)

pub overflow_add-at : goal.overflow_add-at
overflow_add-at c = let q = front (goal.at.overflow_add-at c).After-read_front _ (c.in-Some-Number.is ∙ ap Some c.in-Some-Number.field-0-is) in omega arith

pub loop-at-smaller-in-Some-Number : goal.loop-at-smaller-in-Some-Number
loop-at-smaller-in-Some-Number c = let q = front (goal.at.loop-at-smaller-in-Some-Number c).After-read_front _ (c.in-Some-Number.is ∙ ap Some c.in-Some-Number.field-0-is) in omega arith

pub loop-at-preserved-in-Some-Number : goal.loop-at-preserved-in-Some-Number
loop-at-preserved-in-Some-Number c =
    let q = front (goal.at.loop-at-preserved-in-Some-Number c).After-read_front _ (c.in-Some-Number.is ∙ ap Some c.in-Some-Number.field-0-is) in
    let r = c in
    held_on r.loop-at.invariant r.loop-at-test.true (Some (front_of.Number _ _ _))
    (sym r.read_front.ensures ∙ (c.in-Some-Number.is ∙ ap Some c.in-Some-Number.field-0-is)) _ refl q.ahead refl

pub overflow_add-begin : goal.overflow_add-begin
overflow_add-begin c = let q = front (goal.at.overflow_add-begin c).After-read_front _ (c.in-Some-Part.is ∙ ap Some c.in-Some-Part.field-0-is) in omega arith

pub overflow_add-count : goal.overflow_add-count
overflow_add-count c =
    let l = c in
    omega (arith, l.loop-at.invariant.few, l.loop-at-test.true)

pub overflow_add-at-in-Some-Part : goal.overflow_add-at-in-Some-Part
overflow_add-at-in-Some-Part c = let q = front (goal.at.overflow_add-at-in-Some-Part c).After-read_front _ (c.in-Some-Part.is ∙ ap Some c.in-Some-Part.field-0-is) in omega arith

pub loop-at-smaller-in-Some-Part : goal.loop-at-smaller-in-Some-Part
loop-at-smaller-in-Some-Part c = let q = front (goal.at.loop-at-smaller-in-Some-Part c).After-read_front _ (c.in-Some-Part.is ∙ ap Some c.in-Some-Part.field-0-is) in omega arith

pub loop-at-preserved-in-Some-Part : goal.loop-at-preserved-in-Some-Part
loop-at-preserved-in-Some-Part c =
    let q = front (goal.at.loop-at-preserved-in-Some-Part c).After-read_front _ (c.in-Some-Part.is ∙ ap Some c.in-Some-Part.field-0-is) in
    let i = c.loop-at.invariant in
    let h = c.loop-at-test.true in
    let e = sym c.read_front.ensures ∙ (c.in-Some-Part.is ∙ ap Some c.in-Some-Part.field-0-is) in
    (elim c.if-f-n.branch [ goal.then-f-n w ↦ rw (w.count-is, w.start-is, w.length-is) (held-part i h _ _ _ e q.ahead w.if-f-n.true) | goal.else-f-n w ↦ rw (w.count-is, w.start-is, w.length-is) (held-other i h _ _ _ e q.ahead w.if-f-n.false) ])

pub overflow_add-at-in-Some-Fixed : goal.overflow_add-at-in-Some-Fixed
overflow_add-at-in-Some-Fixed c = let q = front (goal.at.overflow_add-at-in-Some-Fixed c).After-read_front _ (c.in-Some-Fixed.is ∙ ap Some c.in-Some-Fixed.field-0-is) in omega arith

pub loop-at-smaller : goal.loop-at-smaller
loop-at-smaller c = let q = front (goal.at.loop-at-smaller c).After-read_front _ (c.in-Some-Fixed.is ∙ ap Some c.in-Some-Fixed.field-0-is) in omega arith

pub loop-at-preserved : goal.loop-at-preserved
loop-at-preserved c =
    let q = front (goal.at.loop-at-preserved c).After-read_front _ (c.in-Some-Fixed.is ∙ ap Some c.in-Some-Fixed.field-0-is) in
    let r = c in
    held_on r.loop-at.invariant r.loop-at-test.true (Some (front_of.Fixed _))
    (sym r.read_front.ensures ∙ (c.in-Some-Fixed.is ∙ ap Some c.in-Some-Fixed.field-0-is)) _ refl q.ahead refl

pub returns : goal.returns
returns c = held-end c.loop-at.invariant c.loop-at-test.false
