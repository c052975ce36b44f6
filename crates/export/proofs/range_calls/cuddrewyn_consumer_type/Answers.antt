-- `cuddrewyn_consumer_type` meets its contract.
-- Assumes nothing.
use mathlib.Core.Path.{ap, ◌∙◌}
use mir.Facts.{to_z-of_z}
use Rattle.topic_types.specs.ConsumerTypes.{to_wire, from_wire}
use Rattle.export.proofs.ExportLaws.{kind-call}
use Rattle.export.proofs.range_calls.cuddrewyn_consumer_type.Goals as goal

pub returns : goal.returns
returns c =
    let s = c in
    kind-call (from_wire s.args.value) (c.to_pb_i32.ensures ∙ ap to_wire (rw (to_z-of_z s.ranges.value) at c.from_pb_i32-kind.ensures))
