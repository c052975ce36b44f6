-- `last_after` meets its contract. The invariant: the last of the numbers from `at` on, or `last` where there is none, is the last of all,
-- or `before`. The measure is what is left of the message; each front stands inside it. Assumes nothing.
use Rattle.std.specs.Prelude.{Option, Some}
use Prim.Native.Nat.{ℕ, ◌+◌}
use native.Mathlib.Omega.{arith}
use mathlib.Core.Path.{◌≡◌, refl, sym, ◌∙◌, ap}
use Rattle.wire_values.specs.declared.Front.{Front}
use Rattle.wire_values.proofs.FrontLaws.{numbers_from, FrontAt, front_at, numbers-end, number_same, number-other}
use Rattle.wire_values.proofs.WalkLaws.{kept-done, kept_next, kept-stays, last-start}
use Rattle.wire_values.proofs.last_after.Goals.{After-read_front}
use Rattle.wire_values.proofs.last_after.Goals as goal

-- the place where the front is read
front : (c : After-read_front) (q : Option Front) → c.read_front.result ≡ q
    → FrontAt c.args.s.now c.loop-at.at q
front c q e = front_at _ _ c.loop-at-test.true q (sym c.read_front.ensures ∙ e)

pub loop-at-init : goal.loop-at-init
loop-at-init c = last-start _ _

pub returns-in-None : goal.returns-in-None
returns-in-None c =
    let q = front (goal.at.returns-in-None c).After-read_front _ c.in-None.is in
    kept-done (q.numbers _) c.loop-at.invariant

pub overflow_add-at : goal.overflow_add-at
overflow_add-at c = let q = front (goal.at.overflow_add-at c).After-read_front _ (c.in-Some-Number.is ∙ ap Some c.in-Some-Number.field-0-is) in omega arith

pub loop-at-smaller-in-Some-Number : goal.loop-at-smaller-in-Some-Number
loop-at-smaller-in-Some-Number c = let q = front (goal.at.loop-at-smaller-in-Some-Number c).After-read_front _ (c.in-Some-Number.is ∙ ap Some c.in-Some-Number.field-0-is) in omega arith

pub loop-at-preserved-in-Some-Number : goal.loop-at-preserved-in-Some-Number
loop-at-preserved-in-Some-Number c =
    let q = front (goal.at.loop-at-preserved-in-Some-Number c).After-read_front _ (c.in-Some-Number.is ∙ ap Some c.in-Some-Number.field-0-is) in
    let k = c.loop-at.invariant in
    (elim c.if-f-n.branch [ goal.then-f-n w ↦ kept_next (number_same q _ w.if-f-n.true) w.last-is k | goal.else-f-n w ↦ kept-stays (number-other q _ w.if-f-n.false) w.last-is k ])

pub overflow_add-at-in-Some-Part : goal.overflow_add-at-in-Some-Part
overflow_add-at-in-Some-Part c = let q = front (goal.at.overflow_add-at-in-Some-Part c).After-read_front _ (c.in-Some-Part.is ∙ ap Some c.in-Some-Part.field-0-is) in omega arith

pub overflow_add-at-in-Some-Part-2 : goal.overflow_add-at-in-Some-Part-2
overflow_add-at-in-Some-Part-2 c = let q = front (goal.at.overflow_add-at-in-Some-Part-2 c).After-read_front _ (c.in-Some-Part.is ∙ ap Some c.in-Some-Part.field-0-is) in omega arith

pub loop-at-smaller-in-Some-Part : goal.loop-at-smaller-in-Some-Part
loop-at-smaller-in-Some-Part c = let q = front (goal.at.loop-at-smaller-in-Some-Part c).After-read_front _ (c.in-Some-Part.is ∙ ap Some c.in-Some-Part.field-0-is) in omega arith

pub loop-at-preserved-in-Some-Part : goal.loop-at-preserved-in-Some-Part
loop-at-preserved-in-Some-Part c =
    let q = front (goal.at.loop-at-preserved-in-Some-Part c).After-read_front _ (c.in-Some-Part.is ∙ ap Some c.in-Some-Part.field-0-is) in
    let e : c.loop-at.at + c.in-Some-Part.start + c.in-Some-Part.len ≡ c.loop-at.at + (c.in-Some-Part.start + c.in-Some-Part.len) = omega arith in
    kept-stays (q.numbers _ ∙ ap (λ (i : ℕ). numbers_from c.args.n c.args.s.now i) e) refl c.loop-at.invariant

pub overflow_add-at-in-Some-Fixed : goal.overflow_add-at-in-Some-Fixed
overflow_add-at-in-Some-Fixed c = let q = front (goal.at.overflow_add-at-in-Some-Fixed c).After-read_front _ (c.in-Some-Fixed.is ∙ ap Some c.in-Some-Fixed.field-0-is) in omega arith

pub loop-at-smaller : goal.loop-at-smaller
loop-at-smaller c = let q = front (goal.at.loop-at-smaller c).After-read_front _ (c.in-Some-Fixed.is ∙ ap Some c.in-Some-Fixed.field-0-is) in omega arith

pub loop-at-preserved : goal.loop-at-preserved
loop-at-preserved c =
    let q = front (goal.at.loop-at-preserved c).After-read_front _ (c.in-Some-Fixed.is ∙ ap Some c.in-Some-Fixed.field-0-is) in
    kept-stays (q.numbers _) refl c.loop-at.invariant

pub returns : goal.returns
returns c = kept-done (numbers-end _ _ c.loop-at.at (omega arith)) c.loop-at.invariant
