-- `seek_part` meets its contract: the invariant is what it ensures. The measure is what is left of the message; each front stands inside it.
-- Assumes nothing.
use Rattle.std.specs.Prelude.{Option, Some}
use Prim.Native.Nat.{ℕ, ◌+◌}
use native.Mathlib.Omega.{arith}
use mathlib.Core.Path.{◌≡◌, refl, sym, ap, ◌∙◌}
use Rattle.wire_values.specs.declared.Front.{Front}
use Rattle.wire_values.proofs.FrontLaws.{parts_from, FrontAt, front_at, part-other}
use Rattle.wire_values.proofs.seek_part.Goals.{After-read_front}
use Rattle.wire_values.proofs.seek_part.Goals as goal

-- the place where the front is read
front : (c : After-read_front) (q : Option Front) → c.read_front.result ≡ q
    → FrontAt c.args.s.now c.loop-at.at q
front c q e = front_at _ _ c.loop-at-test.true q (sym c.read_front.ensures ∙ e)

pub loop-at-init : goal.loop-at-init
loop-at-init c = refl

pub returns-in-None : goal.returns-in-None
returns-in-None c = c.loop-at.invariant

pub overflow_add-at : goal.overflow_add-at
overflow_add-at c = let q = front (goal.at.overflow_add-at c).After-read_front _ (c.in-Some-Number.is ∙ ap Some c.in-Some-Number.field-0-is) in omega arith

pub loop-at-smaller-in-Some-Number : goal.loop-at-smaller-in-Some-Number
loop-at-smaller-in-Some-Number c = let q = front (goal.at.loop-at-smaller-in-Some-Number c).After-read_front _ (c.in-Some-Number.is ∙ ap Some c.in-Some-Number.field-0-is) in omega arith

pub loop-at-preserved-in-Some-Number : goal.loop-at-preserved-in-Some-Number
loop-at-preserved-in-Some-Number c =
    let q = front (goal.at.loop-at-preserved-in-Some-Number c).After-read_front _ (c.in-Some-Number.is ∙ ap Some c.in-Some-Number.field-0-is) in
    c.loop-at.invariant ∙ q.parts _

pub returns-then-f-n : goal.returns-then-f-n
returns-then-f-n c = c.loop-at.invariant

pub overflow_add-at-in-Some-Part : goal.overflow_add-at-in-Some-Part
overflow_add-at-in-Some-Part c = let q = front (goal.at.overflow_add-at-in-Some-Part c).After-read_front _ (c.in-Some-Part.is ∙ ap Some c.in-Some-Part.field-0-is) in omega arith

pub overflow_add-at-in-Some-Part-2 : goal.overflow_add-at-in-Some-Part-2
overflow_add-at-in-Some-Part-2 c = let q = front (goal.at.overflow_add-at-in-Some-Part-2 c).After-read_front _ (c.in-Some-Part.is ∙ ap Some c.in-Some-Part.field-0-is) in omega arith

pub loop-at-smaller-in-Some-Part : goal.loop-at-smaller-in-Some-Part
loop-at-smaller-in-Some-Part c = let q = front (goal.at.loop-at-smaller-in-Some-Part c).After-read_front _ (c.in-Some-Part.is ∙ ap Some c.in-Some-Part.field-0-is) in omega arith

pub loop-at-preserved-in-Some-Part : goal.loop-at-preserved-in-Some-Part
loop-at-preserved-in-Some-Part c =
    let q = front (goal.at.loop-at-preserved-in-Some-Part c).After-read_front _ (c.in-Some-Part.is ∙ ap Some c.in-Some-Part.field-0-is) in
    let a = c.args in
    let l = c.loop-at in
    let e : l.at + c.in-Some-Part.start + c.in-Some-Part.len ≡ l.at + (c.in-Some-Part.start + c.in-Some-Part.len) = omega arith in
    l.invariant ∙ part-other q _ c.if-f-n.false ∙ ap (λ (i : ℕ). parts_from a.n a.s.now i) e

pub overflow_add-at-in-Some-Fixed : goal.overflow_add-at-in-Some-Fixed
overflow_add-at-in-Some-Fixed c = let q = front (goal.at.overflow_add-at-in-Some-Fixed c).After-read_front _ (c.in-Some-Fixed.is ∙ ap Some c.in-Some-Fixed.field-0-is) in omega arith

pub loop-at-smaller : goal.loop-at-smaller
loop-at-smaller c = let q = front (goal.at.loop-at-smaller c).After-read_front _ (c.in-Some-Fixed.is ∙ ap Some c.in-Some-Fixed.field-0-is) in omega arith

pub loop-at-preserved : goal.loop-at-preserved
loop-at-preserved c =
    let q = front (goal.at.loop-at-preserved c).After-read_front _ (c.in-Some-Fixed.is ∙ ap Some c.in-Some-Fixed.field-0-is) in
    c.loop-at.invariant ∙ q.parts _

pub returns : goal.returns
returns c = c.loop-at.invariant
