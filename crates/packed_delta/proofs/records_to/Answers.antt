-- `delta::records_to` meets its contract.
-- The invariant is `Records` of proofs/ReadLaws: the records that are left, from the place p on, decide the whole, and end where all end.
-- The measure is how many are left. Assumes nothing.
use native.Mathlib.Omega.{arith}
use mathlib.Core.Path.{sym, ap, ◌∙◌}
use mathlib.Core.Bool.{not}
use lib.ListN.{length}
use Rattle.packed.proofs.AssignmentLaws.{RecordIs, record_is}
use Rattle.packed_delta.proofs.ReadLaws.{lowest-first, lowest-above, lowest-stale}
use Rattle.packed_delta.proofs.ReadLaws.{records-start, records-cut, records-stale, records-next, records-end}
use Rattle.packed_delta.proofs.records_to.Goals as goal
use Rattle.packed_delta.proofs.records_to.Goals.{In_ok-id, else-not-first-via-then-not-first+else-id-prev, else-not-first-via-else-not-first}

-- what the record that was read says
record-here : (k : In_ok-id) → RecordIs k.args.s.now k.loop-left.p (length k.args.s.now) k.in_ok-id.id k.in_ok-id.size
record-here k =
    let r = k.in_ok-id in
    record_is k.args.s.now k.loop-left.p (length k.args.s.now) r.id r.size (sym r.was ∙ k.record_at.ensures)

pub loop-left-init : goal.loop-left-init
loop-left-init c = let a = c.args in records-start a.s.now a.at a.n c.requires

pub returns-in_err-id : goal.returns-in_err-id
returns-in_err-id c =
    c.from_residual.ensures
    ∙ records-cut c.loop-left.invariant c.loop-left-test.true (sym c.in_err-id.was ∙ c.record_at.ensures)

pub returns-then-id-prev : goal.returns-then-id-prev
returns-then-id-prev c =
    let l = c.loop-left in
    let i = c.in_ok-id.id in
    records-stale l.invariant c.loop-left-test.true (record-here (goal.at.returns-then-id-prev c).In_ok-id)
    (lowest-stale l.first l.prev i (ap not c.if-not-first.true) c.if-id-prev.true)

pub overflow_add-p : goal.overflow_add-p
overflow_add-p c =
    let g = record-here (goal.at.overflow_add-p c).In_ok-id in omega (arith, g.fits, g.size_is, c.well_formed)

pub loop-left-preserved : goal.loop-left-preserved
loop-left-preserved c =
    let l = c.loop-left in
    let i = c.in_ok-id.id in
    records-next l.invariant c.loop-left-test.true (record-here (goal.at.loop-left-preserved c).In_ok-id)
    (elim c.else-not-first.branch [
      | else-not-first-via-then-not-first+else-id-prev w ↦ lowest-above l.first l.prev i (ap not w.if-not-first.true) w.if-id-prev.false
      | else-not-first-via-else-not-first w ↦ lowest-first l.first l.prev i (ap not w.if-not-first.false)
    ])

pub returns : goal.returns
returns c = records-end c.loop-left.invariant c.loop-left-test.false
