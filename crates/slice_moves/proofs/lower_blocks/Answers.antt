-- `moves::lower_blocks` meets its contract. The invariant is what it ensures; the measure is what is left to move.
-- Assumes nothing.
use native.Mathlib.Omega.{arith}
use Rattle.slice_moves.proofs.MoveLaws.{down-start, down_turn}
use Rattle.slice_moves.proofs.lower_blocks.Goals as goal

pub loop-i-init : goal.loop-i-init
loop-i-init c = let a = c.args in down-start a.b.now a.from a.to a.z

pub move_block-requires : goal.move_block-requires
move_block-requires c = (omega arith, omega arith)

pub loop-i-preserved : goal.loop-i-preserved
loop-i-preserved c =
    let w = c in
    let l = w in
    let a = l.args in
    rw w.move_block.ensures
    (down_turn a.b.now a.from a.to a.z l.loop-i.b l.loop-i.i l.loop-i.invariant 32 (omega arith) (omega arith) (omega arith))

pub shape_of-b : goal.shape_of-b
shape_of-b c = c.loop-i.invariant.long

pub returns : goal.returns
returns c = c.loop-i.invariant
