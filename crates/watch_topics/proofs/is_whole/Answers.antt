-- `topics::is_whole` meets its contract: lengths lead to the place `at`, so what is behind it decides. The measure is what is left.
-- Assumes nothing.
use native.Mathlib.Omega.{arith}
use Prim.Native.Nat.{◌+◌}
use mathlib.Core.Path.{◌≡◌, refl, sym, ◌∙◌}
use Rattle.watch_topics.proofs.WalkLaws.{entry-one, entry-short, entry_whole, whole-end}
use Rattle.watch_topics.proofs.is_whole.Goals as goal

pub loop-at-init : goal.loop-at-init
loop-at-init c = record { within = omega arith; alike = refl }

pub returns-then-s-at-lt-LENGTH : goal.returns-then-s-at-lt-LENGTH
returns-then-s-at-lt-LENGTH c =
    let s = c.args.s.now in
    sym (c.loop-at.invariant.alike ∙ entry-one s c.loop-at.at (omega arith) (omega arith))

pub returns-then-s-at : goal.returns-then-s-at
returns-then-s-at c =
    let s = c.args.s.now in
    let r = c.read_u16-n in
    sym (c.loop-at.invariant.alike ∙ entry-short s c.loop-at.at r.result (omega arith) r.ensures (omega arith))

pub loop-at-preserved : goal.loop-at-preserved
loop-at-preserved c =
    let s = c.args.s.now in
    let r = c.read_u16-n in
    let e : c.loop-at.at + (2 + r.result) ≡ c.loop-at.at + 2 + r.result = omega arith in
    record {
      within = omega arith;
      alike = rw e (c.loop-at.invariant.alike ∙ entry_whole s c.loop-at.at r.result (omega arith) r.ensures (omega arith));
    }

pub returns : goal.returns
returns c =
    sym (c.loop-at.invariant.alike ∙ whole-end c.args.s.now c.loop-at.at (omega arith))
