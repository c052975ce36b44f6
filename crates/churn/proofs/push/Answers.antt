-- `churn::push` meets its contract: the count and the mark that were written are `pushed`, and the places in use give
-- both answers.
-- Assumes nothing.
use Prim.Native.Nat.{ℕ, min}
use native.Mathlib.Omega.{arith}
use mathlib.Core.List.{List}
use mathlib.Core.Path.{ap, ◌∙◌}
use lib.ListN.{drop}
use Rattle.slice_int.specs.Put.{put}
use Rattle.slice_int.specs.Be.{bytes_of}
use Rattle.churn.specs.Churn.{totals_of}
use Rattle.churn.specs.Window.{counts_in, next_mark}
use Rattle.churn.proofs.WindowLaws.{mark-read, window-read, window-short, window-beyond, push-large, push-not, pushed-is, push-answer}
use Rattle.churn.proofs.push.Goals as goal

pub returns-then-count-gt-MOST_LOST : goal.returns-then-count-gt-MOST_LOST
returns-then-count-gt-MOST_LOST c = let a = c.args in push-large a.window.now a.count c.if-count-gt-MOST_LOST.true

pub returns-then-window-lt-WINDOW : goal.returns-then-window-lt-WINDOW
returns-then-window-lt-WINDOW c = let a = c.args in push-not a.window.now a.count (window-short a.window.now c.if-window-lt-WINDOW.true)

pub returns-then-mark : goal.returns-then-mark
returns-then-mark c = let u = c in
    let a = ((u)).args in
    let w = a.window.now in
    push-not w a.count (window-beyond w (omega (arith, mark-read w u.read_u16-mark.result u.read_u16-mark.ensures, c.if-mark.true)))

pub returns : goal.returns
returns c = let w2 = c in
    let n = w2 in
    let w1 = n in
    let e = w1 in
    let u = e in
    let a = ((u)).args in
    let w = a.window.now in
    let m = u.read_u16-mark.result in
    let next = n.next_mark-next.result in
    let mark-is = mark-read w m u.read_u16-mark.ensures in
    push-answer w a.count u.if-count-gt-MOST_LOST.false
    (window-read w m u.read_u16-mark.ensures u.if-window-lt-WINDOW.false e.if-mark.false) w2.write_u16-2.new.out c.reckon.result
    (w2.write_u16-2.ensures
    ∙ ap (λ (l : List ℕ). put l 0 (bytes_of 2 next)) w1.write_u16.ensures
    ∙ pushed-is w a.count m next u.read_u16-mark.ensures n.next_mark-next.ensures.0)
    (c.reckon.ensures
    ∙ ap (λ (k : ℕ). totals_of (counts_in k (drop 2 w2.write_u16-2.new.out))) c.held.ensures
    ∙ ap (λ (k : ℕ). totals_of (counts_in (min k 256) (drop 2 w2.write_u16-2.new.out))) (n.next_mark-next.ensures.0 ∙ ap next_mark mark-is))
