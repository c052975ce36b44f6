-- `has_number` meets its contract: there is a last number, or there is none. Assumes nothing.
use mathlib.Core.Path.{◌∙◌}
use Rattle.wire_required.proofs.LookLaws.{number-found}
use Rattle.wire_required.proofs.has_number.Goals as goal

pub returns : goal.returns
returns c = c.is_some.ensures ∙ number-found c.args.n c.args.s.now _ c.last_number.ensures
