-- `scan_segment` meets its contract. The invariant: the numbers and the topic's place are those so far, and the buckets so far are tested,
-- and written where there is room. The measure is what is left of the part. Assumes nothing.
use Prim.Native.Nat.{◌-◌}
use lib.ListN.{length}
use Rattle.intake_scan.proofs.HeadLaws.{NumbersKept}
use Rattle.intake_scan.proofs.HeadLaws.{TopicKept}
use Rattle.intake_scan.proofs.ScanLaws.{ranges_from, ranges_in}
use Rattle.intake_scan.proofs.ScanLaws.{Scanned}
use Rattle.intake_scan.proofs.scan_segment.Given as goal

abbrev pub invariant-loop-from : goal.invariant-loop-from
invariant-loop-from l = NumbersKept l.p l.from l.numbers × TopicKept l.p l.from l.topic_start l.topic_len × Scanned (ranges_in l.p) (ranges_from l.p l.from) l.at l.initial.b l.b l.from l.run

abbrev pub decreases-loop-from : goal.decreases-loop-from
decreases-loop-from l = length l.p - l.from
