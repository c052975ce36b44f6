-- `number` meets its contract: what `last_number` gives, or 0. Assumes nothing.
use mathlib.Core.Path.{ap, ◌∙◌}
use Rattle.wire_values.specs.Values.{or_zero}
use Rattle.wire_values.proofs.number.Goals as goal

pub returns : goal.returns
returns c = c.or_zero.ensures ∙ ap or_zero c.last_number.ensures
