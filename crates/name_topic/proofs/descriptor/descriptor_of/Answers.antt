-- `descriptor_of` meets its contract: the id, then the two words and the mark before it.
-- Assumes nothing.
use native.Mathlib.Omega.{arith}
use Rattle.name_topic.proofs.TailLaws.{descriptor-is}
use Rattle.name_topic.proofs.descriptor.descriptor_of.Goals as goal

pub returns : goal.returns
returns c =
    let second = c.put_word-2 in
    let first = c.put_word in
    let a = c.args in
    descriptor-is a.range a.id c.put_decimal-t.result _ first.new.out second.new.out c.put_decimal-t.ensures
    (omega (arith, c.put_decimal-t.ensures.room)) first.ensures second.ensures
