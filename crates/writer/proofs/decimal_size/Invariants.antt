-- `decimal_size` meets its contract. The invariant: n - 1 digits are counted, and rest has the others (`Digits` of proofs/SizeLaws). The
-- measure is what is left of twenty. Assumes nothing.
use Prim.Native.Nat.{◌-◌}
use Rattle.writer.proofs.SizeLaws.{Digits}
use Rattle.writer.proofs.decimal_size.Given as goal

abbrev pub invariant-loop-rest : goal.invariant-loop-rest
invariant-loop-rest l = Digits l.v l.n l.rest

abbrev pub decreases-loop-rest : goal.decreases-loop-rest
decreases-loop-rest l = 21 - l.n
