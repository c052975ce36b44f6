-- `topics::compare` meets its contract: the bytes before i are alike, and a word decides, or what is behind the words. The measure is what is left
-- of the shorter one.
-- Assumes nothing.
use Prim.Native.Nat.{◌-◌}
use native.Mathlib.Omega.{arith}
use mathlib.Core.Path.{sym}
use Rattle.watch_topics.proofs.OrderLaws.{Words, words-order, words-alike, front-part}
use Rattle.watch_topics.proofs.compare.Goals as goal

pub returns-then-n-lt8 : goal.returns-then-n-lt8
returns-then-n-lt8 c = c.compare_bytes.ensures

pub alike-i-requires : goal.alike-i-requires
alike-i-requires c =
    let m = c.min-n.ensures in
    (omega (arith, c.if-n-lt8.false, m), omega (arith, c.if-n-lt8.false, m))

pub loop-i-init : goal.loop-i-init
loop-i-init c = (omega (arith, c.alike-i.ensures.0), c.alike-i.ensures.1)

pub overflow_sub-n-in-loop-i : goal.overflow_sub-n-in-loop-i
overflow_sub-n-in-loop-i c = omega (arith, c.loop-i.invariant.0)

pub read_u64-x-requires : goal.read_u64-x-requires
read_u64-x-requires c = omega (arith, c.loop-i.invariant.0, c.min-n.ensures)

pub read_u64-y-requires : goal.read_u64-y-requires
read_u64-y-requires c = omega (arith, c.loop-i.invariant.0, c.min-n.ensures)

pub returns-then-x-y : goal.returns-then-x-y
returns-then-x-y c = words-order ((let it : (let a = c.args in
    Words a.a.now a.b.now c.loop-i.i c.read_u64-x.result c.read_u64-y.result) = let m = c.min-n.ensures in
    record {
      alike = c.loop-i.invariant.1;
      bytes-a = λ j. (c.shared_slice_known-1.given j).fits;
      bytes-b = λ j. (c.shared_slice_known-2-1.given j).fits;
      fits-a = omega (arith, c.loop-i.invariant.0, m);
      fits-b = omega (arith, c.loop-i.invariant.0, m);
      word-a = c.read_u64-x.ensures;
      word-b = c.read_u64-y.ensures;
    } in it)) (λ e. omega arith) _ c.cmp.ensures

pub overflow_add-i : goal.overflow_add-i
overflow_add-i c = omega (arith, c.loop-i.invariant.0)

pub loop-i-smaller : goal.loop-i-smaller
loop-i-smaller c = omega (arith, c.loop-i.invariant.0)

pub loop-i-preserved : goal.loop-i-preserved
loop-i-preserved c = (
  omega (arith, c.loop-i.invariant.0),
  words-alike ((let it : (let a = c.args in
      Words a.a.now a.b.now c.loop-i.i c.read_u64-x.result c.read_u64-y.result) = let m = c.min-n.ensures in
      record {
        alike = c.loop-i.invariant.1;
        bytes-a = λ j. (c.shared_slice_known-1.given j).fits;
        bytes-b = λ j. (c.shared_slice_known-2-1.given j).fits;
        fits-a = omega (arith, c.loop-i.invariant.0, m);
        fits-b = omega (arith, c.loop-i.invariant.0, m);
        word-a = c.read_u64-x.ensures;
        word-b = c.read_u64-y.ensures;
      } in it)) (omega arith) (omega arith),
)

pub compare_end-requires : goal.compare_end-requires
compare_end-requires c =
    let a = c.args in
    let n = c.min-n.result in
    let w = c.if-n-lt8.false in record {
      le_n = ((omega (arith, w)), c.min-n.ensures);
      a_value = front-part a.a.now a.b.now c.loop-i.i (n - 8) (omega (arith, c.loop-i.invariant.0))
          c.loop-i.invariant.1;
    }

pub returns : goal.returns
returns c = c.compare_end.ensures
