-- `attach_log::filling_clear` meets its contract.
-- The invariant: the entries that are left, from the place p on, decide the whole. The measure is how many are left.
-- Assumes nothing.
use native.Mathlib.Omega.{arith}
use mathlib.Core.Path.{refl, sym, ◌∙◌}
use lib.ListN.{drop}
use Rattle.attach_log.proofs.EntryLaws.{clear-set, clear-further, clear_none}
use Rattle.attach_log.proofs.filling_clear.Goals as goal

pub loop-left-init : goal.loop-left-init
loop-left-init c = (omega arith, refl)

pub returns-then-wide-ne0 : goal.returns-then-wide-ne0
returns-then-wide-ne0 c = let w = c in
    let l = w in
    let a = l.args in
    sym (l.loop-left.invariant.1
    ∙ clear-set a.log.now l.loop-left.p l.loop-left.left (omega arith) w.loop-left-test.true
    w.wide.result w.wide.ensures.value
    c.if-wide-ne0.true)

pub loop-left-preserved : goal.loop-left-preserved
loop-left-preserved c = let w = c in
    let l = w in
    let a = l.args in (
      omega arith,
      l.loop-left.invariant.1
          ∙ clear-further a.log.now l.loop-left.p l.loop-left.left (omega arith)
          w.loop-left-test.true w.wide.result
          w.wide.ensures.value c.if-wide-ne0.false,
    )

pub returns : goal.returns
returns c = let l = c in
    let a = l.args in
    sym (l.loop-left.invariant.1 ∙ clear_none l.loop-left.left (drop l.loop-left.p a.log.now) c.loop-left-test.false)
