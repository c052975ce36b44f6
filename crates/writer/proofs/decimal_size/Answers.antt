-- `decimal_size` meets its contract. The invariant: n - 1 digits are counted, and rest has the others (`Digits` of proofs/SizeLaws). The
-- measure is what is left of twenty. Assumes nothing.
use native.Mathlib.Omega.{arith}
use Rattle.writer.proofs.SizeLaws.{digits-start, digits-next, digits-end}
use Rattle.writer.proofs.decimal_size.Goals as goal

pub loop-rest-init : goal.loop-rest-init
loop-rest-init c = digits-start c.args.v (omega arith)

pub loop-rest-preserved : goal.loop-rest-preserved
loop-rest-preserved c = let l = c.loop-rest in digits-next _ l.n l.rest l.invariant (omega arith)

pub returns : goal.returns
returns c = let l = c.loop-rest in digits-end _ l.n l.rest l.invariant (omega arith)
