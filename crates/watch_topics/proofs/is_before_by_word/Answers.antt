-- `topics::is_before_by_word` meets its contract: the bytes before the word are alike, so a lower word decides.
-- Assumes nothing.
use native.Mathlib.Omega.{arith}
use borrow.Author.Tests.{ltb-true}
use mathlib.Core.Bool.{false≢true}
use Rattle.watch_topics.proofs.OrderLaws.{Words, words-less}
use Rattle.watch_topics.proofs.is_before_by_word.Goals as goal

pub returns-then-n-lt8 : goal.returns-then-n-lt8
returns-then-n-lt8 c = λ e. absurd (false≢true e)

pub returns : goal.returns
returns c =
    let i = c.alike-i in
    let m = c.min-n.ensures in
    let a = c.args in
    let w : Words a.a.now a.b.now i.result c.read_u64.result c.read_u64-2.result =
    record {
      alike = i.ensures.1;
      bytes-a = λ j. (c.shared_slice_known-1.given j).fits;
      bytes-b = λ j. (c.shared_slice_known-2-1.given j).fits;
      fits-a = omega (arith, i.ensures.0, m, c.if-n-lt8.false);
      fits-b = omega (arith, i.ensures.0, m, c.if-n-lt8.false);
      word-a = c.read_u64.ensures;
      word-b = c.read_u64-2.ensures;
    } in
    λ e. words-less w (ltb-true c.read_u64.result c.read_u64-2.result e)
