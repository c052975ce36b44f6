-- `moves::lower_words` meets its contract. The invariant is what it ensures, and that the elements are bytes; the measure is what is left to move.
-- Assumes nothing.
use Prim.Native.Nat.{◌+◌}
use native.Mathlib.Omega.{arith}
use Rattle.slice_moves.specs.Moved.{Lowered}
use Rattle.slice_moves.proofs.MoveLaws.{down-start, down_turn, one_word}
use Rattle.slice_moves.proofs.lower_words.Goals as goal

pub loop-i-init : goal.loop-i-init
loop-i-init c = let a = c.args in (down-start a.b.now a.from a.to a.z, λ k. (c.slice_known-1.given k).fits)

pub loop-i-preserved : goal.loop-i-preserved
loop-i-preserved c =
    let w = c in
    let l = w in
    let a = l.args in
    let b = l.loop-i.b in
    let i = l.loop-i.i in
    let r = w in
    let v : Lowered a.b.now a.from a.to a.z w.write_u64.new.out (i + 8) =
    rw (w.write_u64.ensures, r.read_u64-w.ensures, one_word 8 b (a.from + i) (a.to + i) l.loop-i.invariant.1 (omega arith))
    (down_turn a.b.now a.from a.to a.z b i l.loop-i.invariant.0 8 (omega arith) (omega arith) (omega arith)) in
    (v, λ k. (c.slice_known-in-loop-i-1.given k).fits)

pub shape_of-b : goal.shape_of-b
shape_of-b c = c.loop-i.invariant.0.long

pub returns : goal.returns
returns c = c.loop-i.invariant.0
