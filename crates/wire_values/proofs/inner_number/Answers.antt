-- `inner_number` meets its contract. The invariant: the last of the numbers in the parts from `at` on, or `last` where there is none, is the
-- last of all. The measure is what is left of the message. Assumes nothing.
use Rattle.std.specs.Prelude.{ℕ, Option}
use mathlib.Core.Path.{◌≡◌, subst}
use Rattle.wire_values.specs.Places.{NextPart}
use Rattle.wire_values.proofs.PlaceLaws.{inner-next}
use Rattle.wire_values.proofs.inner_number.Goals.{After-next_part}
use Rattle.wire_values.proofs.inner_number.Goals as goal

-- the place where the next part is looked for
step : (c : After-next_part) (q : Option (ℕ × ℕ × ℕ)) → c.next_part.result ≡ q
    → let a = c.args in NextPart a.n a.m.now c.loop-start.at q
step c q e = subst (NextPart c.args.n c.args.m.now c.loop-start.at) e c.next_part.ensures

pub loop-start-preserved : goal.loop-start-preserved
loop-start-preserved c =
    let q = step (goal.at.loop-start-preserved c).After-next_part _ c.in-Some.is in
    inner-next c.loop-start.invariant _ _ _ q c.last_after-last.ensures
