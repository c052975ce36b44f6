-- `assignment_complete` meets its contract. The invariant: what is found, with what is left, is all (`PartsLeft`). The measure is what is left of the message.
-- Assumes nothing.
use Rattle.std.specs.Prelude.{ℕ, Option}
use native.Mathlib.Omega.{arith}
use mathlib.Core.Path.{◌≡◌, subst, ◌∙◌}
use Rattle.wire_values.specs.Places.{NextPart}
use Rattle.wire_required.proofs.LookLaws.{parts-start, parts_next, parts-done}
use Rattle.wire_required.proofs.assignment_complete.Goals.{After-next_part}
use Rattle.wire_required.proofs.assignment_complete.Goals as goal

-- the place where the next part is looked for
step : (c : After-next_part) (q : Option (ℕ × ℕ × ℕ)) → c.next_part.result ≡ q
    → let a = c.args in NextPart a.n a.m.now c.loop-start.at q
step c q e = subst (NextPart c.args.n c.args.m.now c.loop-start.at) e c.next_part.ensures

pub loop-start-preserved : goal.loop-start-preserved
loop-start-preserved c =
    let q = step (goal.at.loop-start-preserved c).After-next_part _ c.in-Some.is in
    parts_next c.loop-start.invariant _ _ _ q c.look-found.ensures.0 c.look-found.ensures.1

pub loop-start-init : goal.loop-start-init
loop-start-init c = parts-start _ _

pub returns : goal.returns
returns c = let q = step (goal.at.returns c).After-next_part _ c.in_default.is in
    c.both.ensures ∙ parts-done c.loop-start.invariant q
