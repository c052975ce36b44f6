-- `session_store::starts` meets its contract: the slot is the part that is read.
-- Assumes nothing.
use mathlib.Core.Path.{ap, ◌∙◌}
use Rattle.packed.specs.Assignment.{starts_assignment}
use Rattle.session_store.proofs.StoreLaws.{part-slot}
use Rattle.session_store.proofs.starts.Goals as goal

pub returns : goal.returns
returns c =
    let s = c in
    c.is_front.ensures ∙ ap starts_assignment (part-slot s.args.store.now s.args.k)
