-- `topics::is_utf8_list` meets its contract: the topics before the place `at` are UTF-8, so what is behind it decides. The measure is what
-- is left.
-- Assumes nothing.
use native.Mathlib.Omega.{arith}
use mathlib.Core.Path.{refl, sym, ◌∙◌}
use lib.ListN.{drop}
use Rattle.watch_topics.proofs.WalkLaws.{list-broken, list-end, list-not-utf8, list-next, entry-one, entry-short}
use Rattle.watch_topics.proofs.is_utf8_list.Goals as goal

pub loop-at-init : goal.loop-at-init
loop-at-init c = record { within = omega arith; alike = refl }

pub returns-then-s-at-lt-LENGTH : goal.returns-then-s-at-lt-LENGTH
returns-then-s-at-lt-LENGTH c =
    let s = c.args.s.now in
    let at = c.loop-at.at in
    sym (c.loop-at.invariant.alike ∙ list-broken (drop at s) (entry-one s at (omega arith) (omega arith)))

pub returns-then-s-at : goal.returns-then-s-at
returns-then-s-at c =
    let s = c.args.s.now in
    let at = c.loop-at.at in
    let r = c.read_u16-n in
    sym (c.loop-at.invariant.alike ∙ list-broken (drop at s) (entry-short s at r.result (omega arith) r.ensures (omega arith)))

pub returns-then-not-is_utf8 : goal.returns-then-not-is_utf8
returns-then-not-is_utf8 c =
    let s = c.args.s.now in
    let at = c.loop-at.at in
    let r = c.read_u16-n in
    let u = c.is_utf8 in
    sym (c.loop-at.invariant.alike
    ∙ list-not-utf8 s at r.result (omega arith) r.ensures (omega arith) u.result u.ensures (c.if-not-is_utf8.true))

pub loop-at-preserved : goal.loop-at-preserved
loop-at-preserved c =
    let s = c.args.s.now in
    let at = c.loop-at.at in
    let r = c.read_u16-n in
    let u = c.is_utf8 in
    record {
      within = omega arith;
      alike =
          c.loop-at.invariant.alike
          ∙ list-next s at r.result (omega arith) r.ensures (omega arith) u.result u.ensures (c.if-not-is_utf8.false);
    }

pub returns : goal.returns
returns c =
    sym (c.loop-at.invariant.alike ∙ list-end c.args.s.now c.loop-at.at (omega arith))
