-- `put_word` meets its contract: five bytes stored, one behind the other.
-- Assumes nothing.
use native.Mathlib.Omega.{arith}
use lib.ListN.{length-set}
use Rattle.name_topic.proofs.TailLaws.{put_word}
use Rattle.name_topic.proofs.descriptor.put_word.Goals as goal

pub bounds-out-at-2 : goal.bounds-out-at-2
bounds-out-at-2 c = simp length-set (omega arith)

pub bounds-out-at-3 : goal.bounds-out-at-3
bounds-out-at-3 c = simp length-set (omega arith)

pub bounds-out-at-4 : goal.bounds-out-at-4
bounds-out-at-4 c = simp length-set (omega arith)

pub bounds-out-at-5 : goal.bounds-out-at-5
bounds-out-at-5 c = simp length-set (omega arith)

pub returns : goal.returns
returns c =
    let a = c.args in
    put_word a.out.now a.at a.mark a.v _ _ _ _ (omega arith) c.hex_digit.ensures
    c.hex_digit-2.ensures c.hex_digit-3.ensures c.hex_digit-4.ensures
