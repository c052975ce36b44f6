-- `write_u16` meets its contract: two numbers of one byte, by `write-add`.
-- Assumes nothing.
use Prim.Native.Nat.{◌+◌, ◌/◌, ◌%◌}
use native.Mathlib.Omega.{arith}
use mathlib.Core.Path.{◌≡◌}
use lib.ListN.{length, set, length-set}
use borrow.Author.Rules.{rules}
use Rattle.slice_int.proofs.WidthLaws.{write-add, write-one}
use Rattle.slice_int.proofs.write_u16.Goals as goal

pub bounds-out-at-2 : goal.bounds-out-at-2
bounds-out-at-2 c = rw (length-set c.args.out.now c.args.at (c.args.v / 256)) (omega arith)

pub returns : goal.returns
returns c =
    let o = c.args.out.now in
    let at = c.args.at in
    let v = c.args.v in
    let l : length (set o at (v / 256)) ≡ length o = length-set o at (v / 256) in
    write-add 1 1 v at o (set o at (v / 256)) _ (omega arith) (write-one o at (v / 256) (omega arith) (omega arith))
    (write-one (set o at (v / 256)) (at + 1) (v % 256) (omega arith) (omega arith))
