-- Public: scalable_consumer.rs: the kind of a consumer, compared, and from and to the wire's integer. The kind itself
-- is that of the crate types.
-- Assumes nothing.
use Rattle.std.specs.Prelude.{zero, suc, Bool, true, false, ℤ, pos, negsuc}
use Rattle.topic_types.specs.declared.ScalableConsumerType.{ScalableConsumerType}
use Rattle.topic_types.specs.declared.ScalableConsumerType.TheVariants.{Stream, Checkpoint}
use Rattle.rust_magnetar.specs.Result.{Result, Ok, Err}

-- #[derive(PartialEq)]
abbrev pub ScalableConsumerType-eq : ScalableConsumerType → ScalableConsumerType → Bool
ScalableConsumerType-eq Stream Stream = true
ScalableConsumerType-eq Stream Checkpoint = false
ScalableConsumerType-eq Checkpoint Stream = false
ScalableConsumerType-eq Checkpoint Checkpoint = true

-- pulsar.proto.rs: pb::ScalableConsumerType, a prost::Enumeration; its error is prost::UnknownEnumValue(value)
pub data pb-ScalableConsumerType : Type 0 where
  pb-Stream pb-Checkpoint : pb-ScalableConsumerType

abbrev pub as-i32 : pb-ScalableConsumerType → ℤ
as-i32 pb-Stream = pos 0
as-i32 pb-Checkpoint = pos 1

pub data UnknownEnumValue : Type 0 where
  unknown : ℤ → UnknownEnumValue

abbrev pub pb-try-from : ℤ → Result pb-ScalableConsumerType UnknownEnumValue
pb-try-from (pos zero) = Ok pb-Stream
pb-try-from (pos (suc zero)) = Ok pb-Checkpoint
pb-try-from (pos (suc (suc n))) = Err (unknown (pos (suc (suc n))))
pb-try-from (negsuc n) = Err (unknown (negsuc n))

-- ScalableConsumerType::to_pb_i32
abbrev pub to-pb-i32 : ScalableConsumerType → ℤ
to-pb-i32 Stream = as-i32 pb-Stream
to-pb-i32 Checkpoint = as-i32 pb-Checkpoint

-- ScalableConsumerType::from_pb_i32
abbrev pub kind-of : Result pb-ScalableConsumerType UnknownEnumValue → ScalableConsumerType
kind-of (Ok pb-Checkpoint) = Checkpoint
kind-of (Ok pb-Stream) = Stream
kind-of (Err error) = Stream

abbrev pub from-pb-i32 : ℤ → ScalableConsumerType
from-pb-i32 value = kind-of (pb-try-from value)
