-- `topics::skip` meets its contract: what stands before the place `at` was passed over.
-- Assumes nothing.
use Rattle.watch_topics.specs.Skipped.{Skipped}
use Rattle.watch_topics.proofs.skip.Given as goal

abbrev pub invariant-loop : goal.invariant-loop
invariant-loop l = Skipped l.s l.from l.at
