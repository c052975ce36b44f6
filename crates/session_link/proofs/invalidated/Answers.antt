-- `session_link::invalidated` meets its contract.
-- Assumes nothing.
use Rattle.std.specs.Prelude.{Ok}
use mathlib.Core.Path.{ap}
use Rattle.session.specs.declared.SessionRecord.{SessionRecord}
use Rattle.session.specs.declared.Answer.TheVariants.{Accepted}
use Rattle.session.specs.Link.{invalidate_of}
use Rattle.session_link.proofs.invalidated.Goals as goal

pub returns : goal.returns
unfolding invalidate_of
returns c = ap (λ (next : SessionRecord). record { next = next; answer = (Ok Accepted) }) c.unregister-next.ensures
