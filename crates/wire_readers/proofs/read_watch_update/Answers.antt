-- `read_watch_update` meets its contract: each value is that of `watch_update_of`. Assumes nothing.
use borrow.Author.Rules.{rules}
use Rattle.wire_readers.specs.Messages.{watch_update_of}
use Rattle.wire_readers.proofs.read_watch_update.Goals as goal

pub returns : goal.returns
unfolding watch_update_of
returns c = search rules
