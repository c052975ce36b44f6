-- `reply::test` meets its contract.
-- Assumes nothing.
use mathlib.Core.Path.{ap, sym, ◌∙◌}
use Rattle.export_reply.specs.Replies.{test_reply}
use Rattle.export_reply.proofs.test.Goals as goal

pub returns-then-b : goal.returns-then-b
unfolding test_reply
returns-then-b c = c.plain.ensures ∙ sym (ap test_reply c.if-b.true)

pub returns-else-b : goal.returns-else-b
unfolding test_reply
returns-else-b c = c.plain-else-b.ensures ∙ sym (ap test_reply c.if-b.false)
