-- `head_of` meets its contract: three numbers and a part. Assumes nothing.
use Rattle.intake_ordered.proofs.TakeLaws.{head-row}
use Rattle.intake_ordered.proofs.head_of.Goals as goal

pub returns : goal.returns
returns c =
    head-row c.in_ok-id.ensures
    c.in_ok-start.ensures
    c.in_ok-end.ensures
    c.in_ok-from.ensures c.if-end-start.false c.if-end-gt-MAX_HASH.false
