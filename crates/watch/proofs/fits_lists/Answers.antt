-- `watch::fits_lists` meets its contract.
-- Assumes nothing.
use Prim.Native.Nat.{◌-◌}
use native.Mathlib.Omega.{arith}
use borrow.Author.Tests.{leb-true}
use mathlib.Core.Bool.{false≢true}
use Rattle.watch.proofs.fits_lists.Goals as goal

pub returns-then-set-n : goal.returns-then-set-n
returns-then-set-n c = λ e. absurd (false≢true e)

pub returns-then-n-gt4294967295 : goal.returns-then-n-gt4294967295
returns-then-n-gt4294967295 c = λ e. absurd (false≢true e)

pub returns-then-out-lt5 : goal.returns-then-out-lt5
returns-then-out-lt5 c = λ e. absurd (false≢true e)

pub returns : goal.returns
returns c = λ e. let a = c.args in let k = leb-true a.n (a.out - 5) e in
    (omega arith, omega arith, omega (arith, k))
