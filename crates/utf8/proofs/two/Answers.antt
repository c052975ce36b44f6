-- `two` meets its contract: its answer is the second byte's test. Assumes nothing.
use mathlib.Core.Path.{sym, ◌∙◌}
use Rattle.utf8.proofs.two.Goals as goal

pub returns-then-in_span : goal.returns-then-in_span
returns-then-in_span c = let e = sym c.in_span.ensures ∙ c.if-in_span.true in rw e

pub returns-else-in_span : goal.returns-else-in_span
returns-else-in_span c = let e = sym c.in_span.ensures ∙ c.if-in_span.false in rw e
