-- `watch::fits_whole` meets its contract.
-- Assumes nothing.
use native.Mathlib.Omega.{arith}
use borrow.Author.Tests.{leb-true}
use Rattle.watch.proofs.fits_whole.Goals as goal

pub returns-else-n-set : goal.returns-else-n-set
returns-else-n-set c = λ e. let k = leb-true c.args.n c.args.set e in absurd (omega (arith, k, c.if-n-set.false))
