-- `write_varint` meets its contract. The invariant: what is left of the varint (`Left` of proofs/LeftLaws), put at the place i, gives the
-- whole varint put at the place at. The measure is what is left of ten bytes. Assumes nothing.
use Prim.Native.Nat.{◌+◌, ◌-◌}
use native.Mathlib.Omega.{arith}
use mathlib.Core.Path.{◌≡◌, refl, ap, ◌∙◌}
use lib.ListN.{length, length-set}
use Rattle.slice_int.specs.Put.{put}
use Rattle.wire_writer.specs.Encode.{varint_bytes}
use Rattle.wire_writer.proofs.LeftLaws.{left, Left, left-all, left-start, left-before, left-next, left_end, left-inside}
use Rattle.wire_writer.proofs.WriteLaws.{write-next, write-last}
use Rattle.wire_writer.proofs.write_varint.Given as goal

abbrev pub invariant-loop-rest : goal.invariant-loop-rest
invariant-loop-rest l = (length l.out ≡ length l.initial.out) × Left l.at l.v l.i l.rest × (put l.out l.i (left l.at l.i l.rest) ≡ put l.initial.out l.at (varint_bytes l.v))

abbrev pub decreases-loop-rest : goal.decreases-loop-rest
decreases-loop-rest l = l.at + 10 - l.i
