-- `hours::any_holds` meets its contract. The invariant is `Turn` of proofs/SpanLaws.
-- Assumes nothing.
use mathlib.Core.Path.{sym, ◌∙◌}
use Rattle.hours.proofs.SpanLaws.{turn_end, turn-first, turn-next, holds-found, holds-further, holds-none}
use Rattle.hours.proofs.any_holds.Goals as goal

pub returns-then-in_span : goal.returns-then-in_span
returns-then-in_span c =
    sym (holds-found c.span_at.result _ c.args.second (sym c.in_span.ensures ∙ c.if-in_span.true))
    ∙ turn-first c.loop-i.invariant c.span_at.result c.loop-i-test.true c.span_at.ensures

pub loop-i-preserved : goal.loop-i-preserved
loop-i-preserved c =
    turn-next c.loop-i.invariant c.span_at.result c.loop-i-test.true c.span_at.ensures
    (holds-further c.span_at.result _ c.args.second (sym c.in_span.ensures ∙ c.if-in_span.false))

pub returns : goal.returns
returns c = sym (holds-none c.args.second) ∙ turn_end c.loop-i.invariant c.loop-i-test.false
