-- `reply::plain` meets its contract.
-- Assumes nothing.
use Rattle.export_reply.specs.Replies.{reply_with, word_at}
use Rattle.export_reply.proofs.plain.Goals as goal

pub returns : goal.returns
unfolding reply_with word_at
returns c = c.values.ensures
