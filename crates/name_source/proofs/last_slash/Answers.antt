-- `last_slash` meets its contract. The invariant: there is no '/' from the place i on. The measure is i.
-- Assumes nothing.
use native.Mathlib.Omega.{arith}
use mathlib.Core.Path.{◌≡◌, sym, ◌∙◌}
use Rattle.name_source.proofs.SlashLaws.{no-slash-end, no-slash-back, last-slash-at, no-last-slash}
use Rattle.name_source.proofs.last_slash.Goals as goal

pub loop-i-init : goal.loop-i-init
loop-i-init c = (omega arith, no-slash-end c.args.s.now)

pub returns-then-class_of-eq-SLASH : goal.returns-then-class_of-eq-SLASH
returns-then-class_of-eq-SLASH c =
    let l = c.loop-i in
    let s = c.args.s.now in
    sym (last-slash-at s l.i (omega arith) l.invariant.0 l.invariant.1 (sym c.class_of.ensures ∙ c.if-class_of-eq-SLASH.true))

pub loop-i-preserved : goal.loop-i-preserved
loop-i-preserved c =
    let l = c.loop-i in
    let s = c.args.s.now in
    let class = c.class_of.ensures in
    (omega arith, no-slash-back s l.i (omega arith) l.invariant.0 l.invariant.1 (λ e. c.if-class_of-eq-SLASH.false (class ∙ e)))

pub returns : goal.returns
returns c =
    let l = c.loop-i in
    let s = c.args.s.now in
    let e : l.i ≡ 0 = omega arith in
    sym (no-last-slash s (rw e at l.invariant.1))
