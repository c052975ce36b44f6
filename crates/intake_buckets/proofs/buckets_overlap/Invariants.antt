-- `buckets_overlap` meets its contract. The invariant: the ranges before `at` are marked, and no two share a value (`Marked`).
-- The measure is how many ranges are left. Assumes nothing.
use lib.ListN.{length}
use Rattle.intake_buckets.specs.Rows.{buckets_from}
use Rattle.intake_buckets.proofs.RowLaws.{Marked}
use Rattle.intake_buckets.proofs.buckets_overlap.Given as goal

abbrev pub invariant-loop-words : goal.invariant-loop-words
invariant-loop-words l = Marked l.p l.words l.at

abbrev pub decreases-loop-words : goal.decreases-loop-words
decreases-loop-words l = length (buckets_from l.p l.at)
