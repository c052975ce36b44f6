-- `moves::lower_bytes` meets its contract. The invariant is `Lowered` of specs/Moved; the measure is what is left to move.
-- Assumes nothing.
use Prim.Native.Nat.{◌+◌}
use native.Mathlib.Omega.{arith}
use Rattle.slice_moves.proofs.MoveLaws.{down-start, down_turn, down-end, one_byte}
use Rattle.slice_moves.proofs.lower_bytes.Goals as goal

pub loop-i-init : goal.loop-i-init
loop-i-init c = let a = c.args in down-start a.b.now a.from a.to a.z

pub loop-i-preserved : goal.loop-i-preserved
loop-i-preserved c =
    let l = c in
    let a = l.args in
    let b = l.loop-i.b in
    let i = l.loop-i.i in
    rw (one_byte b (a.from + i) (a.to + i) (omega arith) (omega arith))
    (down_turn a.b.now a.from a.to a.z b i l.loop-i.invariant 1 (omega arith) (omega arith) (omega arith))

pub shape_of-b : goal.shape_of-b
shape_of-b c = c.loop-i.invariant.long

pub returns : goal.returns
returns c =
    let l = c in
    let a = l.args in
    down-end a.b.now a.from a.to a.z l.loop-i.b l.loop-i.i l.loop-i.invariant (omega arith)
