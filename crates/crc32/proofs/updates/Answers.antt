-- `updates` meets its contract. The invariant: the bytes from the place i on, taken into the state, decide. The measure is what is left of them.
-- Assumes nothing.
use Prim.Native.Nat.{ℕ, ◌+◌}
use native.Mathlib.Omega.{arith}
use mathlib.Core.Path.{refl, sym, ap, ◌∙◌}
use lib.ListN.{drop}
use Rattle.crc32.specs.Crc.{updates}
use Rattle.crc32.proofs.CrcLaws.{updates-turn, updates-end}
use Rattle.crc32.proofs.updates.Goals as goal

pub loop-i-init : goal.loop-i-init
loop-i-init c = refl

pub loop-i-preserved : goal.loop-i-preserved
loop-i-preserved c =
    let s = c.args.s.now in
    let l = c.loop-i in
    l.invariant ∙ updates-turn s l.state l.i (omega arith) ∙ ap (λ (n : ℕ). updates n (drop (l.i + 1) s)) (sym c.update-state.ensures)

pub returns : goal.returns
returns c =
    let l = c.loop-i in
    sym (l.invariant ∙ updates-end c.args.s.now l.state l.i (omega arith))
