-- `stop_from` meets its contract. The invariant: the walk from the place i on decides where it stops. The measure is what is left of the text.
-- Assumes nothing.
use Prim.Native.Nat.{suc, ◌+◌, ◌≤◌, ◌<◌}
use native.Mathlib.Omega.{arith}
use mathlib.Core.Path.{◌≡◌, refl, sym, ◌∙◌}
use lib.ListN.{length, drop, get_or}
use Rattle.name_parents.specs.Classes.{class_of}
use Rattle.name_parents.specs.Parents.{passed}
use Rattle.name_parents.proofs.PathLaws.{passed-stop, passed-low, passed-dash, passed-end}
use Rattle.name_parents.proofs.stop_from.Goals as goal

pub loop-i-init : goal.loop-i-init
loop-i-init c = (c.requires.from_in_bounds, refl)

pub returns-then-class-ne-DASH : goal.returns-then-class-ne-DASH
returns-then-class-ne-DASH c =
    let s = c.args.s.now in
    let a = c.args in
    let l = c.loop-i in
    let class = c.class_in-class.ensures in
    let low : a.lowest ≤ class_of (get_or s l.i 0) = omega (arith, class, c.if-lowest-class.true) in
    omega (arith, l.invariant.1, passed-stop a.lowest s l.i (omega arith) low (λ e. c.if-class-ne-DASH.true (class ∙ e)))

pub loop-i-preserved : goal.loop-i-preserved
loop-i-preserved c =
    let s = c.args.s.now in
    let a = c.args in
    let l = c.loop-i in
    let class = c.class_in-class.ensures in
    let k : l.i < length s = omega arith in
    let next : passed a.lowest (drop l.i s) ≡ suc (passed a.lowest (drop (l.i + 1) s)) =
    elim c.else-lowest-class.branch [
      | goal.else-lowest-class-via-then-lowest-class+else-class-ne-DASH w ↦ passed-dash a.lowest s l.i k (sym class ∙ w.if-class-ne-DASH.false)
      | goal.else-lowest-class-via-else-lowest-class w ↦ passed-low a.lowest s l.i k (omega (arith, class, w.if-lowest-class.false))
    ] in
    (omega arith, omega (arith, l.invariant.1, next))

pub returns : goal.returns
returns c =
    let s = c.args.s.now in
    let a = c.args in
    let l = c.loop-i in
    omega (arith, l.invariant.1, passed-end a.lowest s l.i (omega arith))
