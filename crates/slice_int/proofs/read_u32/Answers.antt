-- `read_u32` meets its contract: two numbers of 2 bytes, by `read-add`.
-- Assumes nothing.
use native.Mathlib.Omega.{arith}
use borrow.Author.Rules.{rules}
use Rattle.slice_int.proofs.WidthLaws.{read-add}
use Rattle.slice_int.proofs.read_u32.Goals as goal

pub returns : goal.returns
returns c =
    let a = c.args in
    read-add 2 2 a.s.now a.at _ _ (omega arith) c.read_u16.ensures c.read_u16-2.ensures
