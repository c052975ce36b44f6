-- `scan` meets its contract, by recursion on the depth.
-- The invariant: the fields from `at` on decide the whole (`Scanned` of proofs/ScanLaws). The loop's
-- measure is the bytes left. Assumes nothing.
use Rattle.std.proofs.Common.{length, ◌-◌}
use Rattle.wire_messages.proofs.ScanLaws.{Scanned}
use Rattle.wire_messages.proofs.+scan.Given as goal

abbrev pub decreases-scan : goal.decreases-scan
decreases-scan l = l.depth

abbrev pub invariant-loop-at : goal.invariant-loop-at
invariant-loop-at l = Scanned l.depth l.kind l.s l.at

abbrev pub decreases-loop-at : goal.decreases-loop-at
decreases-loop-at l = length l.s - l.at
