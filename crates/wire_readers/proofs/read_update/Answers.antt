-- `read_update` meets its contract: each number is that of `update_of`. Assumes nothing.
use borrow.Author.Rules.{rules}
use Rattle.wire_readers.specs.Messages.{read_assignment, update_of}
use Rattle.wire_readers.proofs.read_update.Goals as goal

pub returns : goal.returns
unfolding update_of read_assignment
returns c = search rules
