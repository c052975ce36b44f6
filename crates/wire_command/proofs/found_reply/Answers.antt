-- `found_reply` meets its contract: four values, none of which is negative. Assumes nothing.
use mathlib.Core.Path.{refl}
use Rattle.export_reply.specs.Replies.{reply_with, word_at, word_of}
use Rattle.wire_command.proofs.found_reply.Goals as goal

pub returns : goal.returns
unfolding reply_with word_at word_of
returns c = refl
