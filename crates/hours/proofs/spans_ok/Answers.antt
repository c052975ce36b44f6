-- `hours::spans_ok` meets its contract. The invariant is `Turn` of proofs/SpanLaws.
-- Assumes nothing.
use mathlib.Core.Path.{sym, ◌∙◌}
use Rattle.hours.proofs.SpanLaws.{turn_end, turn-first, turn-next, ok-reversed, ok-beyond, ok-pass, ok-none}
use Rattle.hours.proofs.spans_ok.Goals as goal
use Rattle.hours.proofs.spans_ok.Goals.{then-span-via-then-span, then-span-via-else-span+then-limit-span}

pub returns-then-span : goal.returns-then-span
returns-then-span c =
    elim c.then-span.branch [
      | then-span-via-then-span w ↦ sym (ok-reversed c.args.limit c.span_at-span.result _ w.if-span.true)
          ∙ turn-first c.loop-i.invariant c.span_at-span.result c.loop-i-test.true c.span_at-span.ensures
      | then-span-via-else-span+then-limit-span w ↦ sym (ok-beyond c.args.limit c.span_at-span.result _ w.if-limit-span.true)
          ∙ turn-first c.loop-i.invariant c.span_at-span.result c.loop-i-test.true c.span_at-span.ensures
    ]

pub loop-i-preserved : goal.loop-i-preserved
loop-i-preserved c =
    turn-next c.loop-i.invariant c.span_at-span.result c.loop-i-test.true c.span_at-span.ensures
    (ok-pass c.args.limit c.span_at-span.result _ c.if-span.false c.if-limit-span.false)

pub returns : goal.returns
returns c = sym (ok-none c.args.limit) ∙ turn_end c.loop-i.invariant c.loop-i-test.false
