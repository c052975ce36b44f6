-- `topics::is_list` meets its contract: topics of ASCII bytes are UTF-8. Assumes nothing.
use mathlib.Core.Path.{◌∙◌}
use Rattle.watch_topics.proofs.WalkLaws.{ascii-list}
use Rattle.watch_topics.proofs.is_list.Goals as goal

pub returns-then-all_ascii : goal.returns-then-all_ascii
returns-then-all_ascii c =
    let s = c.args.s.now in
    c.is_whole.ensures ∙ ascii-list s (c.all_ascii.ensures c.if-all_ascii.true)
