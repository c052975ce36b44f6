-- `of_update` lends `take_in` its buffer and the update's own epoch. Assumes nothing.
use Rattle.wire_readers.specs.Messages.{update_of}
use Rattle.test_vectors.proofs.intake_vectors.of_update.Goals as goal

pub take_in-requires-clause-epoch_value : goal.take_in-requires-clause-epoch_value
unfolding update_of
take_in-requires-clause-epoch_value c = c.read_update-head.ensures.epoch
