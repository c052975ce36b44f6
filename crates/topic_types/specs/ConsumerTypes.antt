-- Public: the kind of a consumer and its integer on the wire (01, The rest; PulsarApi.proto, ScalableConsumerType).
-- Assumes nothing.
use Rattle.std.specs.Prelude.{cond, ℤ, pos, negsuc, eqb}
use Rattle.topic_types.specs.declared.ScalableConsumerType.{ScalableConsumerType}
use Rattle.topic_types.specs.declared.ScalableConsumerType.TheVariants.{Stream, Checkpoint}

unfoldable pub to_wire : ScalableConsumerType → ℤ
to_wire Stream = pos 0
to_wire Checkpoint = pos 1

-- "unknown: stream"
unfoldable pub from_wire : ℤ → ScalableConsumerType
from_wire (pos n) = cond (eqb n 1) Checkpoint Stream
from_wire (negsuc n) = Stream
