-- `varint_size` meets its contract. The invariant: n - 1 bytes are counted, and they and the bytes of rest are as many as the
-- whole varint has (`Left` of proofs/LeftLaws, from the place 1 on). The measure is what is left of ten. Assumes nothing.
use Prim.Native.Nat.{◌-◌}
use native.Mathlib.Omega.{arith}
use Rattle.wire_writer.proofs.LeftLaws.{Left, left-start, left-before, left-next, left_end}
use Rattle.wire_writer.proofs.varint_size.Given as goal

abbrev pub invariant-loop-rest : goal.invariant-loop-rest
invariant-loop-rest l = Left 1 l.v l.n l.rest

abbrev pub decreases-loop-rest : goal.decreases-loop-rest
decreases-loop-rest l = 10 - l.n
