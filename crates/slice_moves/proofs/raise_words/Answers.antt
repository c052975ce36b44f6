-- `moves::raise_words` meets its contract. The invariant is what it ensures, and that the elements are bytes; the measure is the place that is reached.
-- Assumes nothing.
use Prim.Native.Nat.{◌+◌, ◌-◌}
use native.Mathlib.Omega.{arith}
use Rattle.slice_moves.specs.Moved.{Raised}
use Rattle.slice_moves.proofs.MoveLaws.{up_start, up_turn, one_word}
use Rattle.slice_moves.proofs.raise_words.Goals as goal

pub loop-i-init : goal.loop-i-init
loop-i-init c =
    let a = c.args in
    (up_start a.b.now a.from a.to a.z c.requires.0, λ k. (c.slice_known-1.given k).fits)

pub loop-i-preserved : goal.loop-i-preserved
loop-i-preserved c =
    let w = c in
    let l = w in
    let a = l.args in
    let b = l.loop-i.b in
    let i = l.loop-i.i in
    let r = w in
    let v : Raised a.b.now a.from a.to a.z w.write_u64.new.out (i - 8) =
    rw (w.write_u64.ensures, r.read_u64-w.ensures, one_word 8 b (i - 8) (i - 8 + a.z) l.loop-i.invariant.1 (omega arith))
    (up_turn a.b.now a.from a.to a.z b i l.loop-i.invariant.0 (i - 8) 8 (omega arith) (omega arith) (omega arith)) in
    (v, λ k. (c.slice_known-in-loop-i-1.given k).fits)

pub shape_of-b : goal.shape_of-b
shape_of-b c = c.loop-i.invariant.0.long

pub returns : goal.returns
returns c = c.loop-i.invariant.0
