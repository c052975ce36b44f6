-- `ScalableConsumerType::to_pb_i32` meets its contract, case by case.
-- Assumes nothing.
use mathlib.Core.Path.{sym, ap}
use borrow.Author.Rules.{rules}
use Rattle.topic_types.specs.ConsumerTypes.{to_wire}
use Rattle.topic_types.proofs.ScalableConsumerType.to_pb_i32.Goals as goal

pub returns-in-Stream : goal.returns-in-Stream
unfolding to_wire
returns-in-Stream c = sym (ap to_wire c.in-Stream.is)

pub returns-in-Checkpoint : goal.returns-in-Checkpoint
unfolding to_wire
returns-in-Checkpoint c = sym (ap to_wire c.in-Checkpoint.is)
