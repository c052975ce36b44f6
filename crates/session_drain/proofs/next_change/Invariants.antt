-- `session_drain::next_change` meets its contract: what is still to be found is found among the entries that are left.
-- Assumes nothing.
use Rattle.session_drain.proofs.DrainLaws.{Walked}
use Rattle.session_drain.proofs.next_change.Given as goal

abbrev pub invariant-loop-i : goal.invariant-loop-i
invariant-loop-i l = Walked l.store l.from l.n (record { i = l.i; at = l.at; before = l.before; until = l.until })
