-- `session_response::first_stale` meets its contract: the entries that are left decide, from the epoch before them on.
-- Assumes nothing.
use Prim.Native.Nat.{◌-◌}
use Rattle.session_response.proofs.ReplayLaws.{Epochs}
use Rattle.session_response.proofs.first_stale.Given as goal

abbrev pub invariant-loop : goal.invariant-loop
invariant-loop l = Epochs l.store l.epoch l.n l.prev l.last l.at (l.n - l.counter)
