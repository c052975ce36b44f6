-- `reply::one` meets its contract.
-- Assumes nothing.
use Rattle.export_reply.specs.Replies.{reply_with, word_at, word_of}
use Rattle.export_reply.proofs.one.Goals as goal

pub returns : goal.returns
unfolding reply_with word_at word_of
returns c = c.values.ensures
