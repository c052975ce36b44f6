-- `check_buckets` meets its contract. Assumes nothing.
use mathlib.Core.Path.{◌≡◌}
use mathlib.Core.List.{[]}
use mir.Syntax.{w32}
use mir.Val.{to_z, of_z}
use borrow.Author.Tests.{not-true, not-false}
use borrow.Author.Rules.{rules}
use Rattle.intake_segment.proofs.CheckLaws.{bucket-bad, buckets-valid, buckets-none, buckets-rise, buckets-apart, buckets-overlap}
use Rattle.intake_segment.proofs.check_buckets.Goals.{else-not-run-2-via-then-not-run-2+else-buckets_overlap, else-not-run-2-via-else-not-run-2}
use Rattle.intake_segment.proofs.check_buckets.Goals as goal

pub returns-then-not-run : goal.returns-then-not-run
returns-then-not-run c =
    let r = c.args.scan.run.last in
    let x : to_z w32 (of_z w32 r.start) ≡ r.start = search rules in
    let y : to_z w32 (of_z w32 r.end) ≡ r.end = search rules in
    rw (x, y) (bucket-bad _ c.requires.scan_of (not-true _ c.if-not-run.true))

pub returns-then-run-eq0 : goal.returns-then-run-eq0
returns-then-run-eq0 c =
    buckets-none _ c.requires.scan_of (not-false _ c.if-not-run.false) c.if-run-eq0.true c.check_name.ensures

pub buckets_overlap-requires : goal.buckets_overlap-requires
buckets_overlap-requires c =
    buckets-valid [] c.requires.scan_of (not-false _ c.if-not-run.false)

pub returns-then-buckets_overlap : goal.returns-then-buckets_overlap
returns-then-buckets_overlap c =
    buckets-overlap _ c.requires.scan_of (not-false _ c.if-not-run.false) c.buckets_overlap.ensures c.if-buckets_overlap.true

pub returns : goal.returns
returns c =
    let valid = not-false _ c.if-not-run.false in
    elim c.else-not-run-2.branch [
      | else-not-run-2-via-then-not-run-2+else-buckets_overlap w ↦ buckets-apart _ c.requires.scan_of valid w.buckets_overlap.ensures w.if-buckets_overlap.false c.check_inside.ensures
      | else-not-run-2-via-else-not-run-2 w ↦ buckets-rise _ c.requires.scan_of valid (not-false _ w.if-not-run-2.false) c.check_inside.ensures
    ]
