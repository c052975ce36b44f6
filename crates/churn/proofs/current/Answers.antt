-- `churn::current` meets its contract: each return is a case of `current` of specs/.
-- Assumes nothing.
use Prim.Native.Nat.{ℕ}
use native.Mathlib.Omega.{arith}
use mathlib.Core.Path.{ap, ◌∙◌}
use lib.ListN.{drop}
use Rattle.churn.specs.Churn.{totals_of}
use Rattle.churn.specs.Window.{counts_in}
use Rattle.churn.proofs.WindowLaws.{mark-read, window-read, window-short, window-beyond, current-not, current-answer}
use Rattle.churn.proofs.current.Goals as goal

pub returns-then-window-lt-WINDOW : goal.returns-then-window-lt-WINDOW
returns-then-window-lt-WINDOW c = let w = c.args.window.now in current-not w (window-short w c.if-window-lt-WINDOW.true)

pub returns-then-mark : goal.returns-then-mark
returns-then-mark c = let u = c in
    let w = u.args.window.now in
    current-not w (window-beyond w (omega (arith, mark-read w u.read_u16-mark.result u.read_u16-mark.ensures, c.if-mark.true)))

pub returns : goal.returns
returns c = let e = c in
    let u = e in
    let w = u.args.window.now in
    let m = u.read_u16-mark.result in
    current-answer w (window-read w m u.read_u16-mark.ensures u.if-window-lt-WINDOW.false e.if-mark.false) c.reckon.result m
    (mark-read w m u.read_u16-mark.ensures) (c.reckon.ensures ∙ ap (λ (k : ℕ). totals_of (counts_in k (drop 2 w))) c.held.ensures)
