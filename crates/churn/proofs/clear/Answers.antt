-- `churn::clear` meets its contract: the mark of no counts is written where there is room for a mark.
-- Assumes nothing.
use Rattle.std.specs.Prelude.{Ok}
use mathlib.Core.Path.{ap, ◌∙◌}
use Rattle.churn.specs.Churn.{churn_outcome}
use Rattle.churn.proofs.WindowLaws.{none-wrote, none-short}
use Rattle.churn.proofs.clear.Goals as goal

pub returns-then-window-ge2 : goal.returns-then-window-ge2
returns-then-window-ge2 c = let w = c in
    let a = w.args in
    ap (churn_outcome (Ok (record { sum = 0; largest = 0 }))) w.write_u16.ensures ∙ none-wrote a.window.now w.if-window-ge2.true

pub returns-else-window-ge2 : goal.returns-else-window-ge2
returns-else-window-ge2 c = let a = c.args in none-short a.window.now c.if-window-ge2.false
