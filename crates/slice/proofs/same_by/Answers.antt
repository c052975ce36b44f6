-- `same_by` meets its contract. The invariant: the first i bytes are the same. The measure is what is left before the last n.
-- Assumes nothing.
use Prim.Native.Nat.{ℕ, ◌-◌}
use native.Mathlib.Omega.{arith}
use mathlib.Core.Path.{refl, sym, ◌∙◌}
use mathlib.Core.List.{List}
use lib.ListN.{length, take, drop}
use Rattle.slice.proofs.SameLaws.{front-longer, same-last, same-part}
use Rattle.slice.proofs.same_by.Goals as goal

pub loop-i-init : goal.loop-i-init
loop-i-init c = refl

pub returns-then-not-same_at : goal.returns-then-not-same_at
returns-then-not-same_at c =
    let l = c in
    let a = l.args in
    sym
    (same-part (λ (s : List ℕ). take a.n (drop l.loop-i.i s)) a.a.now a.b.now
    (sym c.same_at.ensures ∙ c.if-not-same_at.true))

pub loop-i-preserved : goal.loop-i-preserved
loop-i-preserved c =
    let l = c in
    let a = l.args in
    front-longer a.a.now a.b.now l.loop-i.i l.loop-i.invariant a.n (sym c.same_at.ensures ∙ c.if-not-same_at.false)

pub returns : goal.returns
returns c =
    let l = c in
    let a = l.args in
    c.same_at-2.ensures
    ∙ same-last a.a.now a.b.now l.loop-i.i l.loop-i.invariant (length a.a.now - a.n) a.n (omega arith) (omega arith) (omega arith)
