-- `response_text` meets its contract: the text of its field, as `response_of` has it. Assumes nothing.
use Rattle.wire_readers.specs.Messages.{response_of}
use Rattle.wire_readers.proofs.response_text.Goals as goal

pub returns : goal.returns
unfolding response_of
returns c = c.text.ensures
