-- `read_response` meets its contract: each number is that of `response_of`. Assumes nothing.
use borrow.Author.Rules.{rules}
use Rattle.wire_readers.specs.Messages.{read_assignment, response_of}
use Rattle.wire_readers.proofs.read_response.Goals as goal

pub returns : goal.returns
unfolding response_of read_assignment
returns c = search rules
