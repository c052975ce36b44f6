-- `ascii_end` meets its contract: the eights, then byte by byte. The invariant: what was passed over may be. The measure
-- is what is left.
-- Assumes nothing.
use native.Mathlib.Omega.{arith}
use Rattle.utf8.proofs.TextLaws.{ascii-passes, passes-more}
use Rattle.utf8.proofs.ascii_end.Goals as goal

pub loop-at-init : goal.loop-at-init
loop-at-init c = c.eights_end-at.ensures

pub returns-then-s-at-gt127 : goal.returns-then-s-at-gt127
returns-then-s-at-gt127 c = c.loop-at.invariant

pub loop-at-preserved : goal.loop-at-preserved
loop-at-preserved c =
    let l = c.loop-at in
    let a = c.args in
    passes-more a.s.now a.from l.at 1 l.invariant (omega arith)
    (ascii-passes a.s.now l.at (omega arith) (omega arith))

pub returns : goal.returns
returns c = c.loop-at.invariant
