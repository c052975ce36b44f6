-- `put_decimal` meets its contract. The invariant: what is left of the number in decimal, before the digits that are put, is the number in
-- decimal (`Counting` of proofs/TailLaws). The measure is what is left of the number.
-- Assumes nothing.
use Rattle.name_topic.proofs.TailLaws.{Counting}
use Rattle.name_topic.proofs.descriptor.put_decimal.Given as goal

abbrev pub invariant-loop-v : goal.invariant-loop-v
invariant-loop-v l = Counting l.id (record { bytes = l.bytes; from = l.from }) l.v

abbrev pub decreases-loop-v : goal.decreases-loop-v
decreases-loop-v l = l.v
