-- `three` meets its contract: the row's tests, one byte behind the other. Assumes nothing.
use mathlib.Core.Path.{sym, ◌∙◌}
use Rattle.utf8.proofs.RowLaws.{fits-cons}
use Rattle.utf8.proofs.three.Goals.{else-in_span-via-then-in_span+else-in_span-2, else-in_span-via-else-in_span}
use Rattle.utf8.proofs.three.Goals as goal

pub returns-then-in_span-2 : goal.returns-then-in_span-2
returns-then-in_span-2 c =
    let e = sym c.in_span.ensures ∙ c.if-in_span.true in
    let f = sym c.in_span-then-in_span.ensures ∙ c.if-in_span-2.true in
    rw (fits-cons _ _ 1 _, e, f)

pub returns-else-in_span : goal.returns-else-in_span
returns-else-in_span c =
    elim c.else-in_span.branch [
      | else-in_span-via-then-in_span+else-in_span-2 w ↦
          let e = sym c.in_span.ensures ∙ w.if-in_span.true in
          let f = sym w.in_span-then-in_span.ensures ∙ w.if-in_span-2.false in
          rw (fits-cons _ _ 1 _, e, f)
      | else-in_span-via-else-in_span w ↦
          let e = sym c.in_span.ensures ∙ w.if-in_span.false in
          rw (fits-cons _ _ 1 _, e)
    ]
