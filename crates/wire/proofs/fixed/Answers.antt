-- `fixed` meets its contract: its test is the one of `fixed_of`. Assumes nothing.
use borrow.Author.Tests.{le-leb, lt-leb}
use Rattle.wire.specs.Field.{fixed_of}
use Rattle.wire.proofs.fixed.Goals as goal

pub returns-then-n-s : goal.returns-then-n-s
unfolding fixed_of
returns-then-n-s c = simp (le-leb _ _ c.if-n-s.true)

pub returns-else-n-s : goal.returns-else-n-s
unfolding fixed_of
returns-else-n-s c = simp (lt-leb _ _ c.if-n-s.false)
