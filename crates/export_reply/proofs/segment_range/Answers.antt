-- `reply::segment_range` meets its contract: a range's values, and one before them (`reply-behind`). Assumes nothing.
use mathlib.Core.Path.{◌∙◌}
use borrow.Author.Rules.{rules}
use Rattle.export_reply.proofs.ReplyLaws.{source-count, reply-behind}
use Rattle.export_reply.proofs.segment_range.Goals as goal

pub overflow_add-r : goal.overflow_add-r
overflow_add-r c = let h = source-count _ _ c.range-r.ensures in search rules

pub returns : goal.returns
returns c = c.more.ensures ∙ reply-behind _ _ _ c.range-r.ensures
