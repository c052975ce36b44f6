-- `churn::reckon` meets its contract. The invariant: sum and largest so far, with those of the places that are left,
-- are the whole; each count is at most 65,535.
-- Assumes nothing.
use Prim.Native.Nat.{◌+◌, ◌-◌, ◌*◌, max}
use native.Mathlib.Omega.{arith}
use mathlib.Core.List.{[], ◌∷◌}
use mathlib.Core.Path.{◌≡◌, ap, ◌∙◌}
use lib.ListN.{drop}
use Rattle.churn.specs.Churn.{sum_of, largest_of}
use Rattle.churn.specs.Window.{counts_in}
use Rattle.churn.proofs.CountLaws.{counts-row, counts-at, row-none, sum_first, largest-first, sum-none, largest-none, totals-read}
use Rattle.churn.proofs.reckon.Goals as goal

pub loop-i-preserved : goal.loop-i-preserved
loop-i-preserved c =
    let l = c.loop-i in
    let w = c.args.window.now in
    let count = c.read_u16-count.result in
    let cs = counts_in (c.args.n - (l.i + 1)) (drop (2 + 2 * (l.i + 1)) w) in
    let e : counts_in (c.args.n - l.i) (drop (2 + 2 * l.i) w) ≡ count ∷ cs =
    counts-at w c.args.n l.i count c.loop-i-test.true c.read_u16-count.ensures in
    let f : sum_of (counts_in (c.args.n - l.i) (drop (2 + 2 * l.i) w)) ≡ count + sum_of cs = ap sum_of e ∙ sum_first count cs in
    let g : largest_of (counts_in (c.args.n - l.i) (drop (2 + 2 * l.i) w)) ≡ max count (largest_of cs) =
    ap largest_of e ∙ largest-first count cs in
    (omega arith, omega (arith, l.invariant.1), omega (arith, l.invariant.2, c.max-largest.ensures))

pub returns : goal.returns
returns c =
    let l = c.loop-i in
    let w = c.args.window.now in
    let e : counts_in (c.args.n - l.i) (drop (2 + 2 * l.i) w) ≡ [] =
    row-none counts-row (c.args.n - l.i) (drop (2 + 2 * l.i) w) (omega arith) in
    totals-read l.sum l.largest (counts_in c.args.n (drop 2 w))
    (omega (arith, l.invariant.1, ap sum_of e ∙ sum-none)) (omega (arith, l.invariant.2, ap largest_of e ∙ largest-none))
