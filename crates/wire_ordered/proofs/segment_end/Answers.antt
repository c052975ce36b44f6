-- `segment_end` meets its contract: three numbers and a text. Assumes nothing.
use native.Mathlib.Omega.{arith}
use mathlib.Core.Path.{sym, subst, ◌∙◌}
use Rattle.wire_ordered.specs.Ordered.{PartField, PartIs}
use Rattle.wire_ordered.proofs.OrderedLaws.{segment-start, none_above}
use Rattle.wire_ordered.proofs.segment_end.Goals.{In-Some}
use Rattle.wire_ordered.proofs.segment_end.Goals as goal

-- the text's field is there
found : (c : In-Some)
    → PartField 4 c.args.s.now
    c.number_end-end.result c.in-Some.from c.in-Some.to
found c = subst (PartIs 4 c.args.s.now c.number_end-end.result) c.in-Some.is c.part_at.ensures

pub returns-then-is_utf8 : goal.returns-then-is_utf8
returns-then-is_utf8 c = λ h.
    let q = c in
    let l = q.number_end-id.ensures (omega arith) in
    let m = q.number_end-start.ensures (omega arith) in
    let n = q.number_end-end.ensures (omega arith) in
    let t = sym c.is_utf8.ensures ∙ c.if-is_utf8.true in
    let s = q.args.s.now in
    segment-start s l m n (found (goal.at.returns-then-is_utf8 c).In-Some) t

pub returns-then-id-eq0 : goal.returns-then-id-eq0
returns-then-id-eq0 c = none_above

pub returns-then-start-eq0 : goal.returns-then-start-eq0
returns-then-start-eq0 c = none_above

pub returns-then-end-eq0 : goal.returns-then-end-eq0
returns-then-end-eq0 c = none_above

pub returns-in_default : goal.returns-in_default
returns-in_default c = none_above

pub slice_bounds-is_utf8-count : goal.slice_bounds-is_utf8-count
slice_bounds-is_utf8-count c = let h = found (goal.at.slice_bounds-is_utf8-count c).In-Some in omega arith

pub slice_bounds-is_utf8-start : goal.slice_bounds-is_utf8-start
slice_bounds-is_utf8-start c = let h = found (goal.at.slice_bounds-is_utf8-start c).In-Some in omega arith

pub slice_bounds-is_utf8-end : goal.slice_bounds-is_utf8-end
slice_bounds-is_utf8-end c = let h = found (goal.at.slice_bounds-is_utf8-end c).In-Some in omega arith

pub returns-else-is_utf8 : goal.returns-else-is_utf8
returns-else-is_utf8 c = none_above
