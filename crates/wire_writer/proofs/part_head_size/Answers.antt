-- `part_head_size` meets its contract: two varints, each of at most ten bytes. Assumes nothing.
use Prim.Native.Nat.{◌+◌, ◌*◌}
use native.Mathlib.Omega.{arith}
use borrow.Author.Rules.{rules}
use lib.ListN.{length-append}
use Rattle.wire_writer.specs.Encode.{varint_bytes, part_head}
use Rattle.wire_writer.proofs.EncodeLaws.{length-varint-le}
use Rattle.wire_writer.proofs.part_head_size.Goals as goal

pub overflow_add-result : goal.overflow_add-result
overflow_add-result c =
    let a = c.args in
    omega (arith, length-varint-le (8 * a.f + 2), length-varint-le a.n)

pub returns : goal.returns
unfolding part_head
returns c =
    let a = c.args in
    omega (arith, length-append (varint_bytes (8 * a.f + 2)) (varint_bytes a.n))
