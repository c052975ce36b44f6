-- `topics::alike` meets its contract: the bytes before i are alike. The measure is what is left.
-- Assumes nothing.
use native.Mathlib.Omega.{arith}
use mathlib.Core.Path.{refl}
use Rattle.watch_topics.proofs.OrderLaws.{Words, words-alike, front-part}
use Rattle.watch_topics.proofs.alike.Goals as goal

pub loop-at-init : goal.loop-at-init
loop-at-init c = (omega arith, refl)

pub returns-then-x-y : goal.returns-then-x-y
returns-then-x-y c =
    (omega arith, c.loop-at.invariant.1)

pub loop-at-preserved : goal.loop-at-preserved
loop-at-preserved c =
    let s = c.args in
    let w : Words s.a.now s.b.now c.loop-at.at c.read_u64-x.result c.read_u64-y.result =
    record {
      alike = c.loop-at.invariant.1;
      bytes-a = λ j. (c.shared_slice_known-1.given j).fits;
      bytes-b = λ j. (c.shared_slice_known-2-1.given j).fits;
      fits-a = omega arith;
      fits-b = omega arith;
      word-a = c.read_u64-x.ensures;
      word-b = c.read_u64-y.ensures;
    } in
    (omega arith, words-alike w (omega arith) (omega arith))

pub returns : goal.returns
returns c =
    let s = c.args in
    (omega arith, front-part s.a.now s.b.now c.loop-at.at s.last (omega arith) c.loop-at.invariant.1)
