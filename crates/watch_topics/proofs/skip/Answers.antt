-- `topics::skip` meets its contract: what stands before the place `at` was passed over.
-- Assumes nothing.
use Prim.Native.Nat.{◌+◌, ◌≤◌}
use native.Mathlib.Omega.{arith}
use mathlib.Core.Path.{◌≡◌}
use lib.ListN.{length}
use Rattle.watch_topics.specs.Skipped.{Skipped}
use Rattle.watch_topics.proofs.WalkLaws.{entry-two, entry-fits}
use Rattle.watch_topics.proofs.SeekLaws.{skip-start, skip-turn}
use Rattle.watch_topics.proofs.skip.Goals as goal

pub loop-init : goal.loop-init
loop-init c = skip-start c.args.s.now c.args.from c.requires.0 c.requires.1

pub returns-then-s-at : goal.returns-then-s-at
returns-then-s-at c = c.loop.invariant

pub read_u16-z-requires : goal.read_u16-z-requires
read_u16-z-requires c =
    entry-two c.args.s.now c.loop.at (omega (arith, c.if-s-at.false)) c.loop.invariant.whole

pub loop-preserved : goal.loop-preserved
loop-preserved c =
    let a = c.args in
    let e : c.loop.at + (2 + c.read_u16-z.result) ≡ c.loop.at + 2 + c.read_u16-z.result = omega arith in
    rw e (skip-turn a.s.now a.from c.loop.at c.read_u16-z.result c.loop.invariant (omega (arith, c.if-s-at.false))
    c.read_u16-z.ensures)

pub returns : goal.returns
returns c = c.loop.invariant
