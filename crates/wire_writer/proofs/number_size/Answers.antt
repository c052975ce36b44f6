-- `number_size` meets its contract: two varints, each of at most ten bytes. Assumes nothing.
use Prim.Native.Nat.{◌*◌}
use native.Mathlib.Omega.{arith}
use borrow.Author.Rules.{rules}
use lib.ListN.{length-append}
use Rattle.wire_writer.specs.Encode.{varint_bytes, number_field}
use Rattle.wire_writer.proofs.EncodeLaws.{length-varint-le}
use Rattle.wire_writer.proofs.number_size.Goals as goal

pub overflow_add-result : goal.overflow_add-result
overflow_add-result c =
    let a = c.args in
    omega (arith, length-varint-le (8 * a.f), length-varint-le a.v)

pub returns : goal.returns
unfolding number_field
returns c =
    let a = c.args in
    omega (arith, length-append (varint_bytes (8 * a.f)) (varint_bytes a.v))
