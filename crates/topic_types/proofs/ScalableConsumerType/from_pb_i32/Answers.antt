-- `ScalableConsumerType::from_pb_i32` meets its contract: 1 is a checkpoint, any other integer a stream. The code compares the bits of two
-- integers; `to_z-of_z` turns equal bits into equal integers.
-- Assumes nothing.
use mathlib.Core.Path.{◌≡◌, refl, sym, ap, ◌∙◌}
use lib.IntN.{ℤ, pos, negsuc}
use mir.Syntax.{w32}
use mir.Val.{to_z, of_z}
use mir.Facts.{to_z-of_z}
use borrow.Author.Tests.{ne_eqb}
use Rattle.topic_types.specs.ConsumerTypes.{from_wire}
use Rattle.topic_types.specs.declared.ScalableConsumerType.TheVariants.{Stream}
use Rattle.topic_types.proofs.ScalableConsumerType.from_pb_i32.Goals as goal

unknown : (v : ℤ) → (v ≡ pos 1 → ⊥) → from_wire v ≡ Stream
unfolding from_wire
unknown (pos n) h = rw (ne_eqb n 1 (λ e. h (ap pos e)))
unknown (negsuc n) h = refl

pub returns-then-value-eq1 : goal.returns-then-value-eq1
unfolding from_wire
returns-then-value-eq1 c =
    let v : c.args.value ≡ pos 1 = sym (to_z-of_z {w = w32} c.ranges.value) ∙ ap (to_z w32) c.if-value-eq1.true in
    sym (ap from_wire v)

pub returns-else-value-eq1 : goal.returns-else-value-eq1
returns-else-value-eq1 c = sym (unknown c.args.value (λ e. c.if-value-eq1.false (ap (of_z w32) e)))
