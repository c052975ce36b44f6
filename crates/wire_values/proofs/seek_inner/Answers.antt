-- `seek_inner` meets its contract. The invariant: the cursor lies inside the message, and has the same parts before it as the one that was given. The
-- measure is what is left of the message behind this part of field n. Assumes nothing.
use Rattle.std.specs.Prelude.{Option, None}
use Prim.Native.Nat.{ℕ}
use native.Mathlib.Omega.{arith}
use mathlib.Core.Path.{◌≡◌, sym, subst, ◌∙◌}
use lib.ListN.{length, take}
use lib.Seq.{length-take-le}
use Rattle.wire_values.specs.Places.{NextPart}
use Rattle.wire_values.proofs.FrontLaws.{parts-end}
use Rattle.wire_values.proofs.PlaceLaws.{inside-later, inner-later}
use Rattle.wire_values.proofs.seek_inner.Goals.{After-next_part}
use Rattle.wire_values.proofs.seek_inner.Goals as goal

-- this part has no more
none : (c : After-next_part) → let t = c in
    NextPart t.args.k (take t.loop-end.end (t.args.m.now)) t.loop-end.at None
none c =
    let s = c in
    let t = s in
    let l : length (take t.loop-end.end (t.args.m.now)) ≡ t.loop-end.end = length-take-le _ _ t.loop-end.invariant.0.end-length in
    s.seek_part-found.ensures
    ∙ parts-end t.args.k (take t.loop-end.end (t.args.m.now)) s.seek_part-found.result (omega (arith, l))

behind : (c : After-next_part) (q : Option (ℕ × ℕ × ℕ)) → c.next_part.result ≡ q
    → let t = c in NextPart t.args.n (t.args.m.now) t.loop-end.outer q
behind c q e = subst (NextPart c.args.n c.args.m.now c.loop-end.outer) e c.next_part.ensures

pub loop-end-preserved : goal.loop-end-preserved
loop-end-preserved c =
    let b = c in
    let t = b in
    let a = t.args in
    let l = t.loop-end in
    let q = behind (goal.at.loop-end-preserved c).After-next_part _ c.in-Some.is in
    let e = inner-later a.n a.k (t.args.m.now) l.outer l.at l.end (none (goal.at.loop-end-preserved c).After-next_part) _ _ _ q in
    (inside-later a.n (t.args.m.now) _ _ _ _ q, sym e ∙ l.invariant.1)
