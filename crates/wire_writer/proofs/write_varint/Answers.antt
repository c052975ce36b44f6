-- `write_varint` meets its contract. The invariant: what is left of the varint (`Left` of proofs/LeftLaws), put at the place i, gives the
-- whole varint put at the place at. The measure is what is left of ten bytes. Assumes nothing.
use Prim.Native.Nat.{◌+◌, ◌-◌}
use native.Mathlib.Omega.{arith}
use mathlib.Core.Path.{◌≡◌, refl, ap, ◌∙◌}
use lib.ListN.{length, length-set}
use Rattle.slice_int.specs.Put.{put}
use Rattle.wire_writer.specs.Encode.{varint_bytes}
use Rattle.wire_writer.proofs.LeftLaws.{left, Left, left-all, left-start, left-before, left-next, left_end, left-inside}
use Rattle.wire_writer.proofs.WriteLaws.{write-next, write-last}
use Rattle.wire_writer.proofs.write_varint.Goals as goal

pub loop-rest-init : goal.loop-rest-init
loop-rest-init c =
    let a = c.args in
    (refl, left-start a.at a.v (omega arith), ap (put a.out.now a.at) (left-all a.at a.v))

pub bounds-out-i : goal.bounds-out-i
bounds-out-i c =
    let l = c.loop-rest in
    omega (arith, left-inside _ _ l.i l.rest l.invariant.1)

pub overflow_add-i : goal.overflow_add-i
overflow_add-i c =
    let l = c.loop-rest in
    omega (arith, left-inside _ _ l.i l.rest l.invariant.1)

pub loop-rest-smaller : goal.loop-rest-smaller
loop-rest-smaller c =
    let l = c.loop-rest in
    omega (arith, left-before _ _ l.i l.rest l.invariant.1 (omega arith))

pub loop-rest-preserved : goal.loop-rest-preserved
loop-rest-preserved c =
    let l = c.loop-rest in (
      length-set l.out _ _ ∙ l.invariant.0,
      left-next _ _ l.i l.rest l.invariant.1 (omega arith),
      write-next _ _ l.i l.rest l.invariant.1 l.out (omega arith) (omega arith) ∙ l.invariant.2,
    )

pub bounds-out-i-2 : goal.bounds-out-i-2
bounds-out-i-2 c =
    let l = c.loop-rest in
    omega (arith, left-inside _ _ l.i l.rest l.invariant.1)

pub overflow_add-result : goal.overflow_add-result
overflow_add-result c =
    let l = c.loop-rest in
    omega (arith, left-inside _ _ l.i l.rest l.invariant.1)

pub shape_of-out : goal.shape_of-out
shape_of-out c =
    let l = c.loop-rest in
    length-set l.out _ _ ∙ l.invariant.0

pub returns : goal.returns
returns c =
    let l = c.loop-rest in (
      left_end _ _ l.i l.rest l.invariant.1 (omega arith),
      write-last _ _ l.i l.rest l.invariant.1 l.out (omega arith) (omega arith) ∙ l.invariant.2,
    )
