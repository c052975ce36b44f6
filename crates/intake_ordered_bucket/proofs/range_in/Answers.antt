-- `range_in` meets its contract: two numbers, and nothing behind them. Assumes nothing.
use Rattle.intake_ordered_bucket.proofs.BucketLaws.{range-row, range-told}
use Rattle.intake_ordered_bucket.proofs.range_in.Goals as goal

pub returns : goal.returns
returns c =
    range-told c.range_of.result c.range_of.ensures (range-row c.in_ok-start.ensures
    c.in_ok-end.ensures
    c.if-behind-q.false)
