-- `same` meets its contract: parts of two lengths differ, empty ones are the same, the others are compared.
-- Assumes nothing.
use native.Mathlib.Omega.{arith}
use mathlib.Core.Path.{sym}
use Rattle.slice.proofs.SameLaws.{same_length, same_end}
use Rattle.slice.proofs.same.Goals as goal

pub returns-then-a-b : goal.returns-then-a-b
returns-then-a-b c = sym (same_length _ _ c.if-a-b.true)

pub returns-then-a-eq0 : goal.returns-then-a-eq0
returns-then-a-eq0 c = let a = c.args in sym (same_end a.a.now a.b.now 0 (omega arith) (omega arith))
