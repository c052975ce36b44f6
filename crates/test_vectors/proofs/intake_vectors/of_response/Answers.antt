-- `of_response` lends `take_in` its buffer and the response's own epoch. Assumes nothing.
use Rattle.wire_readers.specs.Messages.{response_of}
use Rattle.test_vectors.proofs.intake_vectors.of_response.Goals as goal

pub take_in-requires-clause-epoch_value : goal.take_in-requires-clause-epoch_value
unfolding response_of
take_in-requires-clause-epoch_value c = c.read_response-head.ensures.epoch
