-- `read_u64` meets its contract: four numbers of 2 bytes, by `read-add`.
-- Assumes nothing.
use native.Mathlib.Omega.{arith}
use borrow.Author.Rules.{rules}
use Rattle.slice_int.proofs.WidthLaws.{read-add}
use Rattle.slice_int.proofs.read_u64.Goals as goal

pub returns : goal.returns
returns c =
    let third = c in
    let second = third in
    let first = second in
    let a = first.args in
    let s = a.s.now in
    let at = a.at in
    let four = read-add 2 2 s at _ _ (omega arith) first.read_u16-two.ensures second.read_u16.ensures in
    let six = read-add 4 2 s at _ _ (omega arith) four third.read_u16-2.ensures in
    read-add 6 2 s at _ _ (omega arith) six c.read_u16-3.ensures
