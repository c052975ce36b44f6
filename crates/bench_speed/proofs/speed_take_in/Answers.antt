-- `speed_take_in` may call the intake: the epoch is the update's.
use Rattle.wire_readers.specs.Messages.{update_of}
use Rattle.bench_speed.proofs.speed_take_in.Goals as goal

pub take_in-requires-clause-epoch_value : goal.take_in-requires-clause-epoch_value
unfolding update_of
take_in-requires-clause-epoch_value c = c.read_update-head.ensures.epoch
