-- `hours::spans_ok` meets its contract. The invariant is `Turn` of proofs/SpanLaws.
-- Assumes nothing.
use Rattle.hours.specs.Contract.{ok_spans}
use Rattle.hours.proofs.SpanLaws.{Turn}
use Rattle.hours.proofs.spans_ok.Given as goal

abbrev pub invariant-loop-i : goal.invariant-loop-i
invariant-loop-i l = Turn (ok_spans l.limit) l.s l.at l.n l.i
