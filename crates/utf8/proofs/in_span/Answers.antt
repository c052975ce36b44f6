-- `in_span` meets its contract: the byte at i is there, and lies in the span or below it, or there is none.
-- Assumes nothing.
use native.Mathlib.Omega.{arith}
use mathlib.Core.Path.{sym, ◌∙◌}
use mathlib.Core.Bool.{true≢false}
use lib.ListN.{length}
use borrow.Author.Tests.{leb-true, leb-false, le-ltb}
use Rattle.utf8.proofs.RowLaws.{span-there, span_below, span-past}
use Rattle.utf8.proofs.in_span.Goals.{then-i-s, else-i-s}
use Rattle.utf8.proofs.in_span.Goals as goal

pub returns-then-byte-s : goal.returns-then-byte-s
returns-then-byte-s c =
    let a = c.args in
    elim c.if-i-s.branch [
      | then-i-s w ↦
          sym (span-there a.byte.0 a.byte.1 a.i a.s.now (omega (arith, w.if-i-s.true)) (leb-true _ _ (sym w.value-is ∙ c.if-byte-s.true)))
      | else-i-s w ↦
          absurd (true≢false (sym c.if-byte-s.true ∙ w.value-is ∙ le-ltb a.i (length a.s.now) (omega (arith, w.if-i-s.false))))
    ]

pub returns-else-byte-s : goal.returns-else-byte-s
returns-else-byte-s c =
    let a = c.args in
    elim c.if-i-s.branch [
      | then-i-s w ↦
          c.if-byte-s.false
          ∙ sym (span_below a.byte.0 a.byte.1 a.i a.s.now (omega (arith, w.if-i-s.true)) (leb-false _ _ (sym w.value-is ∙ c.if-byte-s.false)))
      | else-i-s w ↦ c.if-byte-s.false ∙ sym (span-past a.byte.0 a.byte.1 a.i a.s.now (omega (arith, w.if-i-s.false)))
    ]
