-- `segment_key::least_common` meets its contract: where the higher start is above an end, no value is common.
-- Assumes nothing.
use native.Mathlib.Omega.{arith}
use Rattle.key_in_segment.proofs.LeastLaws.{common-none, common-some}
use Rattle.key_in_segment.proofs.least_common.Goals as goal
use Rattle.key_in_segment.proofs.least_common.Goals.{then-a-start-via-then-a-start, then-a-start-via-else-a-start+then-b-start}

pub returns-then-a-start : goal.returns-then-a-start
returns-then-a-start c =
    elim c.then-a-start.branch [
      | then-a-start-via-then-a-start w ↦
          common-none c.args.a c.args.b c.greater-start.result c.greater-start.ensures (omega (arith, w.if-a-start.true))
      | then-a-start-via-else-a-start+then-b-start w ↦
          common-none c.args.a c.args.b c.greater-start.result c.greater-start.ensures (omega (arith, w.if-b-start.true))
    ]

pub returns : goal.returns
returns c =
    common-some c.args.a c.args.b c.greater-start.result c.greater-start.ensures c.if-a-start.false c.if-b-start.false
