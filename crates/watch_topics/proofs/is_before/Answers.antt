-- `topics::is_before` meets its contract: `Less` alone is `before`. Assumes nothing.
use mathlib.Core.Path.{◌∙◌}
use Rattle.watch_topics.proofs.OrderLaws.{is-lt-before}
use Rattle.watch_topics.proofs.is_before.Goals as goal

pub returns : goal.returns
returns c = c.is_lt.ensures ∙ is-lt-before c.args.a.now c.args.b.now c.compare.result c.compare.ensures
