-- `packed_queue::read_entries` meets its contract: the entries that are left decide.
-- Assumes nothing.
use Prim.Native.Nat.{◌-◌}
use Rattle.packed_queue.proofs.WalkLaws.{Walk}
use Rattle.packed_queue.proofs.read_entries.Given as goal

abbrev pub invariant-loop : goal.invariant-loop
invariant-loop l = Walk l.s l.n l.at (l.n - l.counter)
