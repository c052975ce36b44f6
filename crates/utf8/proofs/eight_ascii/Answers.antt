-- `eight_ascii` meets its contract. The invariant: where no other byte was counted, the text from `at` on is one if it is one i bytes further on. The
-- measure is the bytes left of eight.
-- Assumes nothing.
use native.Mathlib.Nat.{add-zero}
use native.Mathlib.Omega.{arith}
use mathlib.Core.Path.{◌≡◌, ◌∙◌}
use borrow.Author.Tests.{eqb-true}
use Rattle.utf8.proofs.TextLaws.{ascii-next}
use Rattle.utf8.proofs.eight_ascii.Goals as goal

pub loop-i-init : goal.loop-i-init
loop-i-init c = (omega arith, omega arith, λ z. rw add-zero)

pub loop-i-preserved : goal.loop-i-preserved
loop-i-preserved c =
    let l = c.loop-i in
    let a = c.args in
    (elim c.if-s-at-gt127.branch [
      | goal.then-s-at-gt127 w ↦ (omega arith, omega (arith, w.others-is), λ z. absurd (omega (arith, w.others-is, z)))
      | goal.else-s-at-gt127 w ↦ (
        omega arith,
        omega (arith, w.others-is),
        λ z. l.invariant.2 (omega (arith, w.others-is, z)) ∙ ascii-next a.s.now a.at l.i (omega arith) w.if-s-at-gt127.false,
      )
    ])

pub returns : goal.returns
returns c = λ e.
    let l = c.loop-i in
    let i : l.i ≡ 8 = omega arith in
    l.invariant.2 (eqb-true l.others 0 e) ∙ rw i
