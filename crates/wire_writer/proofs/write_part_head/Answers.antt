-- `write_part_head` meets its contract: two varints, one right behind the other (`put_two` of proofs/WriteLaws). Assumes nothing.
use Prim.Native.Nat.{◌+◌, ◌*◌}
use borrow.Author.Rules.{rules}
use Rattle.wire_writer.specs.Encode.{varint_bytes, part_head}
use Rattle.wire_writer.proofs.WriteLaws.{room-first, room-second, put_two}
use Rattle.wire_writer.proofs.write_part_head.Goals as goal

pub write_varint-next-requires : goal.write_varint-next-requires
unfolding part_head
write_varint-next-requires c =
    let a = c.args in
    room-first a.out.now a.at (varint_bytes (8 * a.f + 2)) (varint_bytes a.n) c.requires.1

pub write_varint-requires : goal.write_varint-requires
unfolding part_head
write_varint-requires c =
    let s = c in
    let a = s.args in
    let first = c.write_varint-next in
    room-second a.out.now a.at (varint_bytes (8 * a.f + 2)) (varint_bytes a.n) s.requires.1
    first.result first.new.out first.ensures

pub returns : goal.returns
unfolding part_head
returns c =
    let s = c in
    let a = s.args in
    let first = c.write_varint-next in
    let second = c.write_varint in
    put_two a.out.now a.at (varint_bytes (8 * a.f + 2)) (varint_bytes a.n) s.requires.1
    first.result first.new.out first.ensures second.result second.new.out second.ensures
