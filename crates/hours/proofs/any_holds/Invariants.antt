-- `hours::any_holds` meets its contract. The invariant is `Turn` of proofs/SpanLaws.
-- Assumes nothing.
use mathlib.Core.List.{List}
use Rattle.hours.specs.Hours.{any_holds}
use Rattle.hours.specs.declared.Span.{Span}
use Rattle.hours.proofs.SpanLaws.{Turn}
use Rattle.hours.proofs.any_holds.Given as goal

abbrev pub invariant-loop-i : goal.invariant-loop-i
invariant-loop-i l = Turn (λ (xs : List Span). any_holds xs l.second) l.s l.at l.n l.i
