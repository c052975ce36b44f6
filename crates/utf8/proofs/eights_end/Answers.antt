-- `eights_end` meets its contract. The invariant: what was passed over may be. The measure is what is left.
-- Assumes nothing.
use native.Mathlib.Omega.{arith}
use Rattle.utf8.proofs.TextLaws.{passes_none, passes-more}
use Rattle.utf8.proofs.eights_end.Goals as goal

pub loop-at-init : goal.loop-at-init
loop-at-init c = let a = c.args in passes_none a.s.now a.from (omega arith)

pub overflow_sub-s : goal.overflow_sub-s
overflow_sub-s c = c.loop-at.invariant.inside

pub eight_ascii-requires : goal.eight_ascii-requires
eight_ascii-requires c = omega (arith, c.loop-at.invariant.inside)

pub returns-then-not-eight_ascii : goal.returns-then-not-eight_ascii
returns-then-not-eight_ascii c = c.loop-at.invariant

pub loop-at-preserved : goal.loop-at-preserved
loop-at-preserved c =
    let l = c.loop-at in
    let a = c.args in
    passes-more a.s.now a.from l.at 8 l.invariant (omega (arith, l.invariant.inside))
    (c.eight_ascii.ensures (c.if-not-eight_ascii.false))

pub returns : goal.returns
returns c = c.loop-at.invariant
