-- `read_event` meets its contract. The invariant: `event` is the last part of fields 2 and 3 so far, inside the message.
-- The measure is what is left of the message. Assumes nothing.
use Prim.Native.Nat.{◌-◌}
use lib.ListN.{length}
use Rattle.wire_readers.proofs.EventLaws.{EventKept}
use Rattle.wire_readers.proofs.read_event.Given as goal

abbrev pub invariant-loop-at : goal.invariant-loop-at
invariant-loop-at l = EventKept l.m l.at l.event

abbrev pub decreases-loop-at : goal.decreases-loop-at
decreases-loop-at l = length l.m - l.at
