-- `lost` stays in bounds. Assumes nothing.
use Rattle.std.proofs.Common.{◌≤◌, length}
use Rattle.log_lists.proofs.lost.Given as goal

abbrev pub invariant-loop : goal.invariant-loop
invariant-loop g l = l.p ≤ length l.s
