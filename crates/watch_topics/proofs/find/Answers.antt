-- `topics::find` meets its contract: the topics before the place `at` stand before t, so its place is behind them. The measure is what
-- is left.
-- Assumes nothing.
use Prim.Native.Nat.{◌+◌, ◌≤◌}
use native.Mathlib.Omega.{arith}
use mathlib.Core.Path.{refl, sym, ◌∙◌}
use lib.ListN.{length}
use Rattle.watch_topics.proofs.WalkLaws.{entry-two, entry-fits, entry-rest, place_end, place-next}
use Rattle.watch_topics.proofs.find.Goals as goal

pub loop-at-init : goal.loop-at-init
loop-at-init c = record { within = omega arith; whole = c.requires; alike = refl }

pub read_u16-n-requires : goal.read_u16-n-requires
read_u16-n-requires c =
    entry-two c.args.s.now c.loop-at.at c.loop-at-test.true c.loop-at.invariant.whole

pub overflow_add-from : goal.overflow_add-from
overflow_add-from c = omega (
  arith,
  (let it : (c.loop-at.at + 2 + c.read_u16-n.result ≤ length c.args.s.now) = entry-fits c.args.s.now c.loop-at.at c.read_u16-n.result c.loop-at-test.true
      c.read_u16-n.ensures c.loop-at.invariant.whole in it),
)

pub overflow_add-end : goal.overflow_add-end
overflow_add-end c = omega (
  arith,
  (let it : (c.loop-at.at + 2 + c.read_u16-n.result ≤ length c.args.s.now) = entry-fits c.args.s.now c.loop-at.at c.read_u16-n.result c.loop-at-test.true
      c.read_u16-n.ensures c.loop-at.invariant.whole in it),
)

pub slice_bounds-compare-end : goal.slice_bounds-compare-end
slice_bounds-compare-end c = omega (
  arith,
  (let it : (c.loop-at.at + 2 + c.read_u16-n.result ≤ length c.args.s.now) = entry-fits c.args.s.now c.loop-at.at c.read_u16-n.result c.loop-at-test.true
      c.read_u16-n.ensures c.loop-at.invariant.whole in it),
)

pub returns-in-Less : goal.returns-in-Less
returns-in-Less c =
    let l = c in
    let a = l.args in
    let at = l.loop-at.at in
    let turn = place-next a.s.now at c.read_u16-n.result c.loop-at-test.true c.read_u16-n.ensures ((let it : (c.loop-at.at + 2 + c.read_u16-n.result ≤ length c.args.s.now) = entry-fits c.args.s.now c.loop-at.at c.read_u16-n.result c.loop-at-test.true
    c.read_u16-n.ensures c.loop-at.invariant.whole in it)) a.t.now _
    (sym c.in-Less.is ∙ c.compare.ensures) in
    sym (l.loop-at.invariant.alike ∙ turn)

pub returns-in-Equal : goal.returns-in-Equal
returns-in-Equal c =
    let l = c in
    let a = l.args in
    let at = l.loop-at.at in
    let turn = place-next a.s.now at c.read_u16-n.result c.loop-at-test.true c.read_u16-n.ensures ((let it : (c.loop-at.at + 2 + c.read_u16-n.result ≤ length c.args.s.now) = entry-fits c.args.s.now c.loop-at.at c.read_u16-n.result c.loop-at-test.true
    c.read_u16-n.ensures c.loop-at.invariant.whole in it)) a.t.now _
    (sym c.in-Equal.is ∙ c.compare.ensures) in
    sym (l.loop-at.invariant.alike ∙ turn)

pub loop-at-smaller : goal.loop-at-smaller
loop-at-smaller c = omega (
  arith,
  (let it : (c.loop-at.at + 2 + c.read_u16-n.result ≤ length c.args.s.now) = entry-fits c.args.s.now c.loop-at.at c.read_u16-n.result c.loop-at-test.true
      c.read_u16-n.ensures c.loop-at.invariant.whole in it),
)

pub loop-at-preserved : goal.loop-at-preserved
loop-at-preserved c =
    let l = c in
    let a = l.args in
    let at = l.loop-at.at in
    let turn = place-next a.s.now at c.read_u16-n.result c.loop-at-test.true c.read_u16-n.ensures ((let it : (c.loop-at.at + 2 + c.read_u16-n.result ≤ length c.args.s.now) = entry-fits c.args.s.now c.loop-at.at c.read_u16-n.result c.loop-at-test.true
    c.read_u16-n.ensures c.loop-at.invariant.whole in it)) a.t.now _
    (sym c.in-Greater.is ∙ c.compare.ensures) in
    record {
      within = (let it : (c.loop-at.at + 2 + c.read_u16-n.result ≤ length c.args.s.now) = entry-fits c.args.s.now c.loop-at.at c.read_u16-n.result c.loop-at-test.true
          c.read_u16-n.ensures c.loop-at.invariant.whole in it);
      whole = entry-rest a.s.now at c.read_u16-n.result c.loop-at-test.true c.read_u16-n.ensures l.loop-at.invariant.whole;
      alike = l.loop-at.invariant.alike ∙ turn;
    }

pub returns : goal.returns
returns c =
    let a = c.args in
    sym (c.loop-at.invariant.alike ∙ place_end a.s.now a.t.now c.loop-at.at (omega arith))
