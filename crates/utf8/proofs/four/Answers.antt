-- `four` meets its contract: the row's tests, one byte behind the other. Assumes nothing.
use mathlib.Core.Path.{sym, ◌∙◌}
use Rattle.utf8.proofs.RowLaws.{fits-cons}
use Rattle.utf8.proofs.four.Goals.{else-in_span-via-then-in_span+then-in_span-2+else-in_span-3}
use Rattle.utf8.proofs.four.Goals.{else-in_span-via-then-in_span+else-in_span-2, else-in_span-via-else-in_span}
use Rattle.utf8.proofs.four.Goals as goal

pub returns-then-in_span-3 : goal.returns-then-in_span-3
returns-then-in_span-3 c =
    let e = sym c.in_span.ensures ∙ c.if-in_span.true in
    let f = sym c.in_span-then-in_span.ensures ∙ c.if-in_span-2.true in
    let g = sym c.in_span-then-in_span-2.ensures ∙ c.if-in_span-3.true in
    rw (fits-cons _ _ 1 _, fits-cons _ _ 2 _, e, f, g)

pub returns-else-in_span : goal.returns-else-in_span
returns-else-in_span c =
    elim c.else-in_span.branch [
      | else-in_span-via-then-in_span+then-in_span-2+else-in_span-3 w ↦
          let e = sym c.in_span.ensures ∙ w.if-in_span.true in
          let f = sym w.in_span-then-in_span.ensures ∙ w.if-in_span-2.true in
          let g = sym w.in_span-then-in_span-2.ensures ∙ w.if-in_span-3.false in
          rw (fits-cons _ _ 1 _, fits-cons _ _ 2 _, e, f, g)
      | else-in_span-via-then-in_span+else-in_span-2 w ↦
          let e = sym c.in_span.ensures ∙ w.if-in_span.true in
          let f = sym w.in_span-then-in_span.ensures ∙ w.if-in_span-2.false in
          rw (fits-cons _ _ 1 _, fits-cons _ _ 2 _, e, f)
      | else-in_span-via-else-in_span w ↦
          let e = sym c.in_span.ensures ∙ w.if-in_span.false in
          rw (fits-cons _ _ 1 _, e)
    ]
