-- `topics::is_set` meets its contract: a set is a list whose topics rise.
-- Assumes nothing.
use mathlib.Core.Path.{sym, ◌∙◌}
use Rattle.watch_topics.proofs.WalkLaws.{set-list, set-none}
use Rattle.watch_topics.proofs.is_set.Goals as goal

pub returns-then-is_list : goal.returns-then-is_list
returns-then-is_list c =
    let s = c.args.s.now in
    c.is_rising.ensures ∙ set-list s (sym c.is_list.ensures ∙ c.if-is_list.true)

pub returns-else-is_list : goal.returns-else-is_list
returns-else-is_list c =
    let s = c.args.s.now in
    c.if-is_list.false ∙ set-none s (sym c.is_list.ensures ∙ c.if-is_list.false)
