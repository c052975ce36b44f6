-- `topics::compare_end` meets its contract: the last word decides, or else the lengths. Assumes nothing.
use Prim.Native.Nat.{◌-◌}
use native.Mathlib.Omega.{arith}
use Rattle.watch_topics.proofs.OrderLaws.{Words, words-order, end-order}
use Rattle.watch_topics.proofs.compare_end.Goals as goal

pub returns-then-x-y : goal.returns-then-x-y
returns-then-x-y c = words-order ((let it : (let a = c.args in
    Words a.a.now a.b.now (a.n - 8) c.read_u64-x.result c.read_u64-y.result) = record {
      alike = c.requires.a_value;
      bytes-a = λ j. (c.shared_slice_known-1.given j).fits;
      bytes-b = λ j. (c.shared_slice_known-2-1.given j).fits;
      fits-a = omega (arith, c.requires.le_n.0, c.requires.le_n.1);
      fits-b = omega (arith, c.requires.le_n.0, c.requires.le_n.1);
      word-a = c.read_u64-x.ensures;
      word-b = c.read_u64-y.ensures;
    } in it)) (λ e. omega arith) _ c.cmp.ensures

pub returns : goal.returns
returns c =
    let p = c.requires.le_n in
    end-order ((let it : (let a = c.args in
    Words a.a.now a.b.now (a.n - 8) c.read_u64-x.result c.read_u64-y.result) = record {
      alike = c.requires.a_value;
      bytes-a = λ j. (c.shared_slice_known-1.given j).fits;
      bytes-b = λ j. (c.shared_slice_known-2-1.given j).fits;
      fits-a = omega (arith, c.requires.le_n.0, c.requires.le_n.1);
      fits-b = omega (arith, c.requires.le_n.0, c.requires.le_n.1);
      word-a = c.read_u64-x.ensures;
      word-b = c.read_u64-y.ensures;
    } in it)) p.0 p.1 (omega arith) (omega arith) _ c.cmp-2.ensures
