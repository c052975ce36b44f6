-- `is_decimal` meets its contract. The invariant: the bytes from the place end on are the number's last digits. The measure is what is left of it.
-- Assumes nothing.
use Rattle.name_topic.proofs.CompareLaws.{Ending}
use Rattle.name_topic.proofs.descriptor.is_decimal.Given as goal

abbrev pub invariant-loop-v : goal.invariant-loop-v
invariant-loop-v l = Ending l.id l.s l.at l.end l.v

abbrev pub decreases-loop-v : goal.decreases-loop-v
decreases-loop-v l = l.v
