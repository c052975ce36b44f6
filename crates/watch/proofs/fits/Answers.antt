-- `watch::fits` meets its contract.
-- Assumes nothing.
use native.Mathlib.Omega.{arith}
use Rattle.watch.proofs.SettleLaws.{fits-large, fits-over, fits_last}
use Rattle.watch.proofs.fits.Goals as goal

pub returns-then-z-gt4294967295 : goal.returns-then-z-gt4294967295
returns-then-z-gt4294967295 c = fits-large _ _ _ c.if-z-gt4294967295.true

pub returns-then-room-lt5 : goal.returns-then-room-lt5
returns-then-room-lt5 c = let a = c.args in fits-over a.z a.gone a.room (omega arith)

pub returns-then-room-z : goal.returns-then-room-z
returns-then-room-z c = let a = c.args in fits-over a.z a.gone a.room (omega arith)

pub returns : goal.returns
returns c = let a = c.args in fits_last a.z a.gone a.room (omega arith) (omega arith) (omega arith)
