-- `last_part` meets its contract. The invariant: `start` and `length` are the place of the last part before `at`. The measure is what is left of the
-- message. Assumes nothing.
use Rattle.std.specs.Prelude.{ℕ, Option}
use mathlib.Core.Path.{◌≡◌, subst}
use Rattle.wire_values.specs.Places.{NextPart}
use Rattle.wire_values.proofs.TextLaws.{sought-done}
use Rattle.wire_values.proofs.last_part.Goals.{After-next_part}
use Rattle.wire_values.proofs.last_part.Goals as goal

-- the place where the next part is looked for
step : (c : After-next_part) (q : Option (ℕ × ℕ × ℕ)) → c.next_part.result ≡ q
    → let a = c.args in NextPart a.n a.s.now c.loop-from.at q
step c q e = subst (NextPart c.args.n c.args.s.now c.loop-from.at) e c.next_part.ensures

pub returns : goal.returns
returns c = sought-done c.loop-from.invariant (step (goal.at.returns c).After-next_part _ c.in_default.is)
