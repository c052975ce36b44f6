-- `segment_key::least_in` meets its contract. The invariant: what was found so far and the ranges that are left, from
-- the i-th on, decide the whole. Assumes nothing.
use Prim.Native.Nat.{◌+◌, ◌-◌, ◌*◌}
use native.Mathlib.Omega.{arith}
use mathlib.Core.List.{List}
use mathlib.Core.Path.{sym, ap, ◌∙◌}
use lib.ListN.{drop}
use Rattle.topic_types.specs.declared.KeyRange.{KeyRange}
use Rattle.key_in_segment.specs.Ends.{lesser_of, least_in}
use Rattle.key_in_segment.proofs.LeastLaws.{lesser-none, row-turn}
use Rattle.key_in_segment.proofs.WalkLaws.{ranges-next, ranges-all}
use Rattle.packed.specs.Assignment.{decode_ranges}
use Rattle.packed.proofs.AssignmentLaws.{ranges-none}
use Rattle.key_in_segment.proofs.least_in.Goals as goal

pub loop-i-init : goal.loop-i-init
loop-i-init c = ap (least_in c.args.range) (ranges-all c.args.s.now c.args.at c.args.n)

pub loop-i-preserved : goal.loop-i-preserved
loop-i-preserved c =
    let a = c.args in
    let l = c.loop-i in
    l.invariant
    ∙ ap (λ (rs : List KeyRange). lesser_of l.best (least_in a.range rs))
    (ranges-next a.s.now a.at a.n l.i c.range_at.result c.loop-i-test.true c.range_at.ensures)
    ∙ row-turn a.range c.range_at.result (decode_ranges (a.n - (l.i + 1)) (drop (a.at + 4 * (l.i + 1)) a.s.now)) l.best c.lesser-best.result
    (c.lesser-best.ensures ∙ ap (lesser_of l.best) c.least_common-found.ensures)

pub returns : goal.returns
unfolding least_in
returns c =
    let a = c.args in
    let l = c.loop-i in
    sym (l.invariant
    ∙ ap (λ (rs : List KeyRange). lesser_of l.best (least_in a.range rs))
    (ranges-none (a.n - l.i) (drop (a.at + 4 * l.i) a.s.now) (omega arith))
    ∙ lesser-none l.best)
