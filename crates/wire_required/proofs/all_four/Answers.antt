-- `all_four` meets its contract. Assumes nothing.
use mathlib.Core.Path.{◌∙◌}
use Rattle.wire_required.proofs.all_four.Goals as goal

pub returns : goal.returns
returns c = c.both-3.ensures ∙ rw (c.both-2.ensures, c.both.ensures)
