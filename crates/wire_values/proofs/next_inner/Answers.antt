-- `next_inner` meets its contract. The invariant: the cursor lies inside the message, not before the one that was given, and has the same
-- parts before it. The measure is what is left of the message behind this part of field n. Assumes nothing.
use Rattle.std.specs.Prelude.{ℕ, Option}
use native.Mathlib.Omega.{arith}
use mathlib.Core.Path.{◌≡◌, subst, ◌∙◌}
use lib.ListN.{take}
use Rattle.wire_values.specs.Places.{NextPart}
use Rattle.wire_values.proofs.PlaceLaws.{inside-later, inner-found, inner-later}
use Rattle.wire_values.proofs.next_inner.Goals.{After-next_part, After-next_part-in-loop-start}
use Rattle.wire_values.proofs.next_inner.Goals as goal

within : (c : After-next_part) (q : Option (ℕ × ℕ × ℕ)) → c.next_part.result ≡ q
    → let t = c in NextPart t.args.k (take t.loop-start.end (t.args.m.now)) t.loop-start.at q
within c q e = subst (NextPart c.args.k (take c.loop-start.end c.args.m.now) c.loop-start.at) e c.next_part.ensures

behind : (c : After-next_part-in-loop-start) (q : Option (ℕ × ℕ × ℕ)) → c.next_part-in-loop-start.result ≡ q
    → let t = c in NextPart t.args.n (t.args.m.now) t.loop-start.outer q
behind c q e = subst (NextPart c.args.n c.args.m.now c.loop-start.outer) e c.next_part-in-loop-start.ensures

pub returns-in-Some : goal.returns-in-Some
returns-in-Some c =
    let t = c in
    let a = t.args in
    let i = t.loop-start.invariant in
    let p = within (goal.at.returns-in-Some c).After-next_part _ c.in-Some.is in
    let q = inner-found a.n a.k (t.args.m.now) _ _ _ i.0 _ _ _ p in
    (q.0, omega (arith, i.1, p.0, p.1), q.2, q.3, i.2 ∙ q.4)

pub loop-start-preserved : goal.loop-start-preserved
loop-start-preserved c =
    let t = c in
    let a = t.args in
    let l = t.loop-start in
    let p = within (goal.at.loop-start-preserved c).After-next_part _ c.in_default.is in
    let q = behind (goal.at.loop-start-preserved c).After-next_part-in-loop-start _ c.in_ok-from.was in (
      inside-later a.n (t.args.m.now) _ _ _ _ q,
      omega (arith, l.invariant.1, l.invariant.0.at-outer, q.0),
      l.invariant.2 ∙ inner-later a.n a.k (t.args.m.now) l.outer l.at l.end p _ _ _ q,
    )
