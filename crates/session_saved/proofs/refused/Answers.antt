-- `saved::refused` meets its contract: the record is that of a session just opened with 0 and 0.
-- Assumes nothing.
use Rattle.std.specs.Prelude.{Err}
use mathlib.Core.Path.{ap, ◌∙◌}
use Rattle.session.specs.declared.SessionRecord.{SessionRecord}
use Rattle.session_saved.proofs.refused.Goals as goal

pub returns : goal.returns
returns c =
    c.refuse.ensures
    ∙ ap (λ (r : SessionRecord). record { next = r; answer = Err c.args.x }) c.fresh.ensures
