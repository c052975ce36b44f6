-- `scan_segment` meets its contract. The invariant: the numbers and the topic's place are those so far, and the buckets so far are tested,
-- and written where there is room. The measure is what is left of the part. Assumes nothing.
use Rattle.std.specs.Prelude.{Some}
use native.Mathlib.Omega.{arith}
use mathlib.Core.Path.{sym, ap, ◌∙◌}
use mathlib.Core.List.{map}
use Rattle.wire_values.proofs.FrontLaws.{front_at, numbers-end, parts-end, part-other}
use Rattle.wire_readers.specs.Messages.{int_range_of}
use Rattle.intake_scan.proofs.HeadLaws.{numbers-start, numbers-stays, numbers-other, numbers-set}
use Rattle.intake_scan.proofs.HeadLaws.{topic-start, topic-stays, topic-set, topic-other, head-says}
use Rattle.intake_scan.proofs.ScanLaws.{ranges-next}
use Rattle.intake_scan.proofs.ScanLaws.{scanned-start, scanned-stays, scanned-next, scanned-done}
use Rattle.intake_scan.proofs.scan_segment.Goals as goal

pub loop-from-init : goal.loop-from-init
loop-from-init c = rw c.no_buckets-run.ensures (numbers-start _, topic-start _, scanned-start _ _ _)

pub shape_of-b-in-None : goal.shape_of-b-in-None
shape_of-b-in-None c = c.loop-from.invariant.2.long

pub returns-in-None : goal.returns-in-None
returns-in-None c =
    let q = (front_at _ _ c.loop-from-test.true _ (sym c.read_front.ensures ∙ c.in-None.is)) in
    let k = c.loop-from.invariant in
    scanned-done c.segment_scan.ensures (head-says q.numbers (q.parts 4) k.0 k.1) (ap (map int_range_of) (q.parts 5)) k.2

pub overflow_add-from : goal.overflow_add-from
overflow_add-from c = let q = (front_at _ _ c.loop-from-test.true _ (sym c.read_front.ensures ∙ (c.in-Some-Number.is ∙ ap Some c.in-Some-Number.field-0-is))) in omega arith

pub loop-from-smaller-in-Some-Number : goal.loop-from-smaller-in-Some-Number
loop-from-smaller-in-Some-Number c = let q = (front_at _ _ c.loop-from-test.true _ (sym c.read_front.ensures ∙ (c.in-Some-Number.is ∙ ap Some c.in-Some-Number.field-0-is))) in omega arith

pub loop-from-preserved-in-Some-Number : goal.loop-from-preserved-in-Some-Number
loop-from-preserved-in-Some-Number c =
    let q = (front_at _ _ c.loop-from-test.true _ (sym c.read_front.ensures ∙ (c.in-Some-Number.is ∙ ap Some c.in-Some-Number.field-0-is))) in
    let k = c.loop-from.invariant in (
      (elim c.if-f-lt4.branch [ goal.then-f-lt4 w ↦ rw w.numbers-is (numbers-set q k.0 w.if-f-lt4.true) | goal.else-f-lt4 w ↦ rw w.numbers-is (numbers-other q k.0 w.if-f-lt4.false) ]),
      topic-stays k.1 (q.parts 4),
      scanned-stays (ap (map int_range_of) (q.parts 5)) (omega arith) k.2,
    )

pub overflow_add-begin : goal.overflow_add-begin
overflow_add-begin c = let q = (front_at _ _ c.loop-from-test.true _ (sym c.read_front.ensures ∙ (c.in-Some-Part.is ∙ ap Some c.in-Some-Part.field-0-is))) in omega arith

pub overflow_add-end : goal.overflow_add-end
overflow_add-end c = let q = (front_at _ _ c.loop-from-test.true _ (sym c.read_front.ensures ∙ (c.in-Some-Part.is ∙ ap Some c.in-Some-Part.field-0-is))) in omega arith

pub slice_bounds-read_bucket-count : goal.slice_bounds-read_bucket-count
slice_bounds-read_bucket-count c = let q = (front_at _ _ c.loop-from-test.true _ (sym c.read_front.ensures ∙ (c.in-Some-Part.is ∙ ap Some c.in-Some-Part.field-0-is))) in omega arith

pub slice_bounds-read_bucket-end : goal.slice_bounds-read_bucket-end
slice_bounds-read_bucket-end c = let q = (front_at _ _ c.loop-from-test.true _ (sym c.read_front.ensures ∙ (c.in-Some-Part.is ∙ ap Some c.in-Some-Part.field-0-is))) in omega arith

pub next_bucket-run-requires : goal.next_bucket-run-requires
next_bucket-run-requires c =
    let q = (front_at _ _ c.loop-from-test.true _ (sym c.read_front.ensures ∙ (c.in-Some-Part.is ∙ ap Some c.in-Some-Part.field-0-is))) in
    let k = c.loop-from.invariant.2 in
    record { room_in_bounds = omega (arith, k.long, c.requires); count_bound = omega (arith, k.few) }

pub loop-from-smaller-then-f-eq5 : goal.loop-from-smaller-then-f-eq5
loop-from-smaller-then-f-eq5 c = let q = (front_at _ _ c.loop-from-test.true _ (sym c.read_front.ensures ∙ (c.in-Some-Part.is ∙ ap Some c.in-Some-Part.field-0-is))) in omega arith

pub loop-from-preserved-then-f-eq5 : goal.loop-from-preserved-then-f-eq5
loop-from-preserved-then-f-eq5 c =
    let q = (front_at _ _ c.loop-from-test.true _ (sym c.read_front.ensures ∙ (c.in-Some-Part.is ∙ ap Some c.in-Some-Part.field-0-is))) in
    let k = c.loop-from.invariant in
    let e = ranges-next q c.if-f-eq5.true c.read_bucket-r.ensures in
    let n = c.next_bucket-run.ensures in (
      numbers-stays q.numbers k.0,
      (elim c.if-f-eq4.branch [ goal.then-f-eq4 w ↦ topic-set k.1 q w.if-f-eq4.true w.topic_start-is w.topic_len-is | goal.else-f-eq4 w ↦ topic-other k.1 q w.if-f-eq4.false w.topic_start-is w.topic_len-is ]),
      scanned-next e (omega arith) n.0 c.requires n.1 k.2,
    )

pub loop-from-smaller-else-f-eq5 : goal.loop-from-smaller-else-f-eq5
loop-from-smaller-else-f-eq5 c = let q = (front_at _ _ c.loop-from-test.true _ (sym c.read_front.ensures ∙ (c.in-Some-Part.is ∙ ap Some c.in-Some-Part.field-0-is))) in omega arith

pub loop-from-preserved-else-f-eq5 : goal.loop-from-preserved-else-f-eq5
loop-from-preserved-else-f-eq5 c =
    let q = (front_at _ _ c.loop-from-test.true _ (sym c.read_front.ensures ∙ (c.in-Some-Part.is ∙ ap Some c.in-Some-Part.field-0-is))) in
    let k = c.loop-from.invariant in (
      numbers-stays q.numbers k.0,
      (elim c.if-f-eq4.branch [ goal.then-f-eq4 w ↦ topic-set k.1 q w.if-f-eq4.true w.topic_start-is w.topic_len-is | goal.else-f-eq4 w ↦ topic-other k.1 q w.if-f-eq4.false w.topic_start-is w.topic_len-is ]),
      scanned-stays (ap (map int_range_of) (part-other q 5 c.if-f-eq5.false)) (omega arith) k.2,
    )

pub overflow_add-from-in-Some-Fixed : goal.overflow_add-from-in-Some-Fixed
overflow_add-from-in-Some-Fixed c = let q = (front_at _ _ c.loop-from-test.true _ (sym c.read_front.ensures ∙ (c.in-Some-Fixed.is ∙ ap Some c.in-Some-Fixed.field-0-is))) in omega arith

pub loop-from-smaller : goal.loop-from-smaller
loop-from-smaller c = let q = (front_at _ _ c.loop-from-test.true _ (sym c.read_front.ensures ∙ (c.in-Some-Fixed.is ∙ ap Some c.in-Some-Fixed.field-0-is))) in omega arith

pub loop-from-preserved : goal.loop-from-preserved
loop-from-preserved c =
    let q = (front_at _ _ c.loop-from-test.true _ (sym c.read_front.ensures ∙ (c.in-Some-Fixed.is ∙ ap Some c.in-Some-Fixed.field-0-is))) in
    let k = c.loop-from.invariant in (
      numbers-stays q.numbers k.0,
      topic-stays k.1 (q.parts 4),
      scanned-stays (ap (map int_range_of) (q.parts 5)) (omega arith) k.2,
    )

pub shape_of-b : goal.shape_of-b
shape_of-b c = c.loop-from.invariant.2.long

pub returns : goal.returns
returns c =
    let l = c.loop-from in
    let k = l.invariant in
    let h = head-says (λ n. numbers-end n _ l.from (omega arith)) (parts-end 4 _ l.from (omega arith)) k.0 k.1 in
    scanned-done c.segment_scan-2.ensures h (ap (map int_range_of) (parts-end 5 _ l.from (omega arith))) k.2
