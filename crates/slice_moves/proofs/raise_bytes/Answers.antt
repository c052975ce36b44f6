-- `moves::raise_bytes` meets its contract. The invariant is `Raised` of specs/Moved; the measure is the place that is reached.
-- Assumes nothing.
use native.Mathlib.Omega.{arith}
use Rattle.slice_moves.proofs.MoveLaws.{up_start, up_one, up-end}
use Rattle.slice_moves.proofs.raise_bytes.Goals as goal

pub loop-i-init : goal.loop-i-init
loop-i-init c = let a = c.args in up_start a.b.now a.from a.to a.z c.requires.0

pub loop-i-preserved : goal.loop-i-preserved
loop-i-preserved c =
    let l = c in
    let a = l.args in
    up_one a.b.now a.from a.to a.z l.loop-i.b l.loop-i.i l.loop-i.invariant (omega arith) (omega arith)

pub shape_of-b : goal.shape_of-b
shape_of-b c = c.loop-i.invariant.long

pub returns : goal.returns
returns c =
    let l = c in
    let a = l.args in
    up-end a.b.now a.from a.to a.z l.loop-i.b l.loop-i.i l.loop-i.invariant (omega arith)
