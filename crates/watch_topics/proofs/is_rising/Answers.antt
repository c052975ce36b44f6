-- `topics::is_rising` meets its contract: the topics up to the place `at` rise, so what is behind it decides. The measure is what is left.
-- Assumes nothing.
use Prim.Native.Nat.{◌+◌, ◌≤◌}
use native.Mathlib.Omega.{arith}
use mathlib.Core.Bool.{true}
use mathlib.Core.Path.{◌≡◌, refl, sym, ◌∙◌}
use lib.ListN.{length, drop}
use Rattle.watch_topics.specs.Packed.{is_whole}
use Rattle.watch_topics.proofs.WalkLaws.{entry-two, entry-fits, entry-rest, rising-end, rising-last, rising-not, rising-on}
use Rattle.watch_topics.proofs.is_rising.Goals as goal

pub loop-at-init : goal.loop-at-init
loop-at-init c = record { within = omega arith; whole = c.requires; alike = refl }

pub read_u16-n-requires : goal.read_u16-n-requires
read_u16-n-requires c =
    entry-two c.args.s.now c.loop-at.at c.loop-at-test.true c.loop-at.invariant.whole

pub overflow_add-from : goal.overflow_add-from
overflow_add-from c = omega (
  arith,
  (let it : (c.loop-at.at + 2 + c.read_u16-n.result ≤ length c.args.s.now) = entry-fits c.args.s.now c.loop-at.at c.read_u16-n.result c.loop-at-test.true c.read_u16-n.ensures
      c.loop-at.invariant.whole in it),
)

pub overflow_add-end : goal.overflow_add-end
overflow_add-end c = omega (
  arith,
  (let it : (c.loop-at.at + 2 + c.read_u16-n.result ≤ length c.args.s.now) = entry-fits c.args.s.now c.loop-at.at c.read_u16-n.result c.loop-at-test.true c.read_u16-n.ensures
      c.loop-at.invariant.whole in it),
)

pub read_u16-m-requires : goal.read_u16-m-requires
read_u16-m-requires c =
    let l = c in
    let s = l.args.s.now in
    let at = l.loop-at.at in
    entry-two s (at + 2 + c.read_u16-n.result) c.if-end-s.true ((let it : (is_whole (drop (c.loop-at.at + 2 + c.read_u16-n.result) c.args.s.now) ≡ true) = entry-rest c.args.s.now c.loop-at.at c.read_u16-n.result c.loop-at-test.true c.read_u16-n.ensures
    c.loop-at.invariant.whole in it))

pub overflow_add-next : goal.overflow_add-next
overflow_add-next c = omega (
  arith,
  (let it : (c.loop-at.at + 2 + c.read_u16-n.result + 2 + c.read_u16-m.result ≤ length c.args.s.now) = let l = c in
      entry-fits l.args.s.now (l.loop-at.at + 2 + c.read_u16-n.result) c.read_u16-m.result c.if-end-s.true
      c.read_u16-m.ensures ((let it : (is_whole (drop (c.loop-at.at + 2 + c.read_u16-n.result) c.args.s.now) ≡ true) = entry-rest c.args.s.now c.loop-at.at c.read_u16-n.result c.loop-at-test.true c.read_u16-n.ensures
      c.loop-at.invariant.whole in it)) in it),
)

pub slice_bounds-is_before_next-end : goal.slice_bounds-is_before_next-end
slice_bounds-is_before_next-end c = omega (
  arith,
  (let it : (c.loop-at.at + 2 + c.read_u16-n.result ≤ length c.args.s.now) = entry-fits c.args.s.now c.loop-at.at c.read_u16-n.result c.loop-at-test.true c.read_u16-n.ensures
      c.loop-at.invariant.whole in it),
)

pub overflow_add-next-then-end-s : goal.overflow_add-next-then-end-s
overflow_add-next-then-end-s c = omega (
  arith,
  (let it : (c.loop-at.at + 2 + c.read_u16-n.result + 2 + c.read_u16-m.result ≤ length c.args.s.now) = let l = c in
      entry-fits l.args.s.now (l.loop-at.at + 2 + c.read_u16-n.result) c.read_u16-m.result c.if-end-s.true
      c.read_u16-m.ensures ((let it : (is_whole (drop (c.loop-at.at + 2 + c.read_u16-n.result) c.args.s.now) ≡ true) = entry-rest c.args.s.now c.loop-at.at c.read_u16-n.result c.loop-at-test.true c.read_u16-n.ensures
      c.loop-at.invariant.whole in it)) in it),
)

pub slice_bounds-is_before_next-end-then-end-s : goal.slice_bounds-is_before_next-end-then-end-s
slice_bounds-is_before_next-end-then-end-s c = omega (
  arith,
  (let it : (c.loop-at.at + 2 + c.read_u16-n.result + 2 + c.read_u16-m.result ≤ length c.args.s.now) = let l = c in
      entry-fits l.args.s.now (l.loop-at.at + 2 + c.read_u16-n.result) c.read_u16-m.result c.if-end-s.true
      c.read_u16-m.ensures ((let it : (is_whole (drop (c.loop-at.at + 2 + c.read_u16-n.result) c.args.s.now) ≡ true) = entry-rest c.args.s.now c.loop-at.at c.read_u16-n.result c.loop-at-test.true c.read_u16-n.ensures
      c.loop-at.invariant.whole in it)) in it),
)

pub returns-then-not-is_before_next : goal.returns-then-not-is_before_next
returns-then-not-is_before_next c =
    let s = c.args.s.now in
    let at = c.loop-at.at in
    let u = c.is_before_next in
    sym (c.loop-at.invariant.alike
    ∙ rising-not s at c.read_u16-n.result c.loop-at-test.true c.read_u16-n.ensures
    c.read_u16-m.result c.if-end-s.true c.read_u16-m.ensures u.result u.ensures (c.if-not-is_before_next.true))

pub loop-at-smaller-else-not-is_before_next : goal.loop-at-smaller-else-not-is_before_next
loop-at-smaller-else-not-is_before_next c = omega (
  arith,
  (let it : (c.loop-at.at + 2 + c.read_u16-n.result ≤ length c.args.s.now) = entry-fits c.args.s.now c.loop-at.at c.read_u16-n.result c.loop-at-test.true c.read_u16-n.ensures
      c.loop-at.invariant.whole in it),
)

pub loop-at-preserved-else-not-is_before_next : goal.loop-at-preserved-else-not-is_before_next
loop-at-preserved-else-not-is_before_next c =
    let l = c in
    let s = l.args.s.now in
    let at = l.loop-at.at in
    let u = c.is_before_next in
    record {
      within = (let it : (c.loop-at.at + 2 + c.read_u16-n.result ≤ length c.args.s.now) = entry-fits c.args.s.now c.loop-at.at c.read_u16-n.result c.loop-at-test.true c.read_u16-n.ensures
          c.loop-at.invariant.whole in it);
      whole = (let it : (is_whole (drop (c.loop-at.at + 2 + c.read_u16-n.result) c.args.s.now) ≡ true) = entry-rest c.args.s.now c.loop-at.at c.read_u16-n.result c.loop-at-test.true c.read_u16-n.ensures
          c.loop-at.invariant.whole in it);
      alike =
          l.loop-at.invariant.alike
          ∙ rising-on s at c.read_u16-n.result c.loop-at-test.true c.read_u16-n.ensures
          c.read_u16-m.result c.if-end-s.true c.read_u16-m.ensures u.result u.ensures (c.if-not-is_before_next.false);
    }

pub loop-at-smaller : goal.loop-at-smaller
loop-at-smaller c = omega (
  arith,
  (let it : (c.loop-at.at + 2 + c.read_u16-n.result ≤ length c.args.s.now) = entry-fits c.args.s.now c.loop-at.at c.read_u16-n.result c.loop-at-test.true c.read_u16-n.ensures
      c.loop-at.invariant.whole in it),
)

pub loop-at-preserved : goal.loop-at-preserved
loop-at-preserved c =
    let l = c in
    let s = l.args.s.now in
    let at = l.loop-at.at in
    record {
      within = (let it : (c.loop-at.at + 2 + c.read_u16-n.result ≤ length c.args.s.now) = entry-fits c.args.s.now c.loop-at.at c.read_u16-n.result c.loop-at-test.true c.read_u16-n.ensures
          c.loop-at.invariant.whole in it);
      whole = (let it : (is_whole (drop (c.loop-at.at + 2 + c.read_u16-n.result) c.args.s.now) ≡ true) = entry-rest c.args.s.now c.loop-at.at c.read_u16-n.result c.loop-at-test.true c.read_u16-n.ensures
          c.loop-at.invariant.whole in it);
      alike = l.loop-at.invariant.alike ∙ rising-last s at c.read_u16-n.result c.loop-at-test.true c.read_u16-n.ensures (omega arith);
    }

pub returns : goal.returns
returns c =
    sym (c.loop-at.invariant.alike ∙ rising-end c.args.s.now c.loop-at.at (omega arith))
