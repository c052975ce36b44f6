-- `varint_size` meets its contract. The invariant: n - 1 bytes are counted, and they and the bytes of rest are as many as the
-- whole varint has (`Left` of proofs/LeftLaws, from the place 1 on). The measure is what is left of ten. Assumes nothing.
use Prim.Native.Nat.{◌-◌}
use native.Mathlib.Omega.{arith}
use Rattle.wire_writer.proofs.LeftLaws.{Left, left-start, left-before, left-next, left_end}
use Rattle.wire_writer.proofs.varint_size.Goals as goal

pub loop-rest-init : goal.loop-rest-init
loop-rest-init c = left-start 1 c.args.v (omega arith)

pub loop-rest-smaller : goal.loop-rest-smaller
loop-rest-smaller c =
    let l = c.loop-rest in
    omega (arith, left-before 1 _ l.n l.rest l.invariant (omega arith))

pub loop-rest-preserved : goal.loop-rest-preserved
loop-rest-preserved c =
    let l = c.loop-rest in
    left-next 1 _ l.n l.rest l.invariant (omega arith)

pub returns : goal.returns
returns c =
    let l = c.loop-rest in
    omega (arith, left_end 1 _ l.n l.rest l.invariant (omega arith))
