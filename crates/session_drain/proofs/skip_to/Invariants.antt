-- `session_drain::skip_to` meets its contract: each entry begins where the one before it ends.
-- Assumes nothing.
use Rattle.session_drain.specs.Entries.{Reaches}
use Rattle.session_drain.proofs.skip_to.Given as goal

abbrev pub invariant-loop : goal.invariant-loop
invariant-loop l = Reaches l.store (record { i = l.counter; at = l.at; before = l.before; until = l.until })
