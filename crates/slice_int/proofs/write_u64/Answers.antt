-- `write_u64` meets its contract: two numbers of 4 bytes, by `write-add`.
-- Assumes nothing.
use native.Mathlib.Omega.{arith}
use borrow.Author.Rules.{rules}
use Rattle.slice_int.proofs.WidthLaws.{write-add}
use Rattle.slice_int.proofs.write_u64.Goals as goal

pub returns : goal.returns
returns c =
    let second = c.write_u32-2 in
    let first = c.write_u32 in
    let a = c.args in
    write-add 4 4 a.v a.at a.out.now first.new.out second.new.out (omega arith) first.ensures second.ensures
