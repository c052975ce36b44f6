-- `charge::lengths` meets its contract. The invariant: the sum and the lengths of the ranges that are left are the
-- whole; each length counted is at most 2^32.
-- Assumes nothing.
use Prim.Native.Nat.{◌+◌, ◌-◌, ◌*◌}
use native.Mathlib.Omega.{arith}
use mathlib.Core.List.{List}
use mathlib.Core.Bool.{true}
use mathlib.Core.Path.{◌≡◌, ap, ◌∙◌, subst}
use lib.ListN.{drop}
use Rattle.packed.specs.Assignment.{decode_ranges, all_in_order}
use Rattle.ranges_calls.specs.Calls.{values_in}
use Rattle.topic_types.specs.declared.KeyRange.{KeyRange}
use Rattle.charge.specs.Charge.{lengths_of}
use Rattle.charge.proofs.ChargeLaws.{order-first, lengths-first, lengths_none, ranges-next, ranges-all}
use Rattle.charge.proofs.lengths.Goals as goal

pub loop-i-init : goal.loop-i-init
loop-i-init c =
    let q = ranges-all c.args.s.now c.args.at c.args.n in
    (omega arith, subst (λ (rs : List KeyRange). all_in_order rs ≡ true) q c.requires.2, omega (arith, ap lengths_of q))

pub range_length-sum-requires : goal.range_length-sum-requires
range_length-sum-requires c =
    (order-first c.range_at.result _ (subst (λ (rs : List KeyRange). all_in_order rs ≡ true)
    (ranges-next c.args.s.now c.args.at c.args.n c.loop-i.i c.range_at.result c.loop-i-test.true c.range_at.ensures)
    c.loop-i.invariant.1)).0

pub loop-i-preserved : goal.loop-i-preserved
loop-i-preserved c =
    let a = c.args in
    let r = c.range_at.result in
    let rs = decode_ranges (a.n - (c.loop-i.i + 1)) (drop (a.at + 4 * (c.loop-i.i + 1)) a.s.now) in
    let q = ranges-next a.s.now a.at a.n c.loop-i.i r c.loop-i-test.true c.range_at.ensures in
    let e : lengths_of (decode_ranges (a.n - c.loop-i.i) (drop (a.at + 4 * c.loop-i.i) a.s.now)) ≡ values_in r + lengths_of rs =
    ap lengths_of q ∙ lengths-first r rs in (
      omega arith,
      (order-first r rs (subst (λ (ts : List KeyRange). all_in_order ts ≡ true) q c.loop-i.invariant.1)).1,
      omega (arith, c.loop-i.invariant.2, c.range_length-sum.ensures.0),
    )

pub returns : goal.returns
returns c =
    let a = c.args in
    omega (arith, c.loop-i.invariant.2, lengths_none (a.n - c.loop-i.i) (drop (a.at + 4 * c.loop-i.i) a.s.now) (omega arith))
