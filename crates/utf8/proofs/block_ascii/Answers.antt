-- `block_ascii` meets its contract. The invariant: the bytes that were passed are of the first row, if it is said so. The measure is the bytes left of
-- 16.
-- Assumes nothing.
use native.Mathlib.Omega.{arith}
use mathlib.Core.Path.{◌≡◌}
use Rattle.utf8.proofs.TextLaws.{ascii-start, ascii-turn}
use Rattle.utf8.proofs.block_ascii.Goals as goal

pub loop-i-init : goal.loop-i-init
loop-i-init c = (omega arith, λ e. ascii-start c.args.s.now c.args.at)

pub loop-i-preserved : goal.loop-i-preserved
loop-i-preserved c =
    let l = c in
    let a = l.args in
    let r = c.stays_ascii-ascii in
    (omega arith, ascii-turn a.s.now a.at l.loop-i.i l.loop-i.ascii l.loop-i.invariant.1 r.result r.ensures)

pub returns : goal.returns
returns c = λ e.
    let l = c in
    let n : l.loop-i.i ≡ 16 = omega (arith, l.loop-i.invariant.0) in
    rw n at (l.loop-i.invariant.1 e)
