-- `log_rows::mark_id` meets its contract: the number stands behind those below it, or nowhere.
-- Assumes nothing.
use native.Mathlib.Omega.{arith}
use Rattle.attach_rows.proofs.MarkLaws.{mark-lacks, mark-hit, mark-miss}
use Rattle.attach_rows.proofs.mark_id.Goals as goal
use Rattle.attach_rows.proofs.mark_id.Goals.{else-r-ids-via-then-r-ids+else-ids-r, else-r-ids-via-else-r-ids}

pub bounds-marks-r : goal.bounds-marks-r
bounds-marks-r c = omega (arith, c.if-r-ids.true, c.requires.1)

pub returns-then-ids-r : goal.returns-then-ids-r
returns-then-ids-r c =
    mark-hit c.args.x c.args.ids.now c.args.marks.now c.rank-r.result c.requires.0 c.rank-r.ensures c.if-r-ids.true c.requires.1 c.if-ids-r.true

pub returns-else-r-ids : goal.returns-else-r-ids
returns-else-r-ids c =
    elim c.else-r-ids.branch [
      | else-r-ids-via-then-r-ids+else-ids-r w ↦
          mark-miss c.args.x c.args.ids.now c.args.marks.now c.rank-r.result c.requires.0 c.rank-r.ensures (λ h e. w.if-ids-r.false e)
      | else-r-ids-via-else-r-ids w ↦
          mark-miss c.args.x c.args.ids.now c.args.marks.now c.rank-r.result c.requires.0 c.rank-r.ensures (λ h e. omega (arith, w.if-r-ids.false))
    ]

pub returns-else-is_within : goal.returns-else-is_within
returns-else-is_within c = mark-lacks c.args.x c.args.ids.now c.args.marks.now (c.is_within.ensures c.if-is_within.false)
