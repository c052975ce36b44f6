-- `watch_text` meets its contract: the text of its field, as `watch_update_of` has it. Assumes nothing.
use Rattle.wire_readers.specs.Messages.{watch_update_of}
use Rattle.wire_readers.proofs.watch_text.Goals as goal

pub returns : goal.returns
unfolding watch_update_of
returns c = c.text.ensures
