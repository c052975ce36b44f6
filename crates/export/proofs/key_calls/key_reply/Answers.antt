-- `key_reply` meets its contract: four values, none of which is negative.
-- Assumes nothing.
use mathlib.Core.Path.{refl}
use Rattle.export_reply.specs.Replies.{reply_with, word_at, word_of}
use Rattle.export.specs.Exports.{key_reply}
use Rattle.export.proofs.key_calls.key_reply.Goals as goal

pub returns : goal.returns
unfolding key_reply reply_with word_at word_of
returns c = refl
