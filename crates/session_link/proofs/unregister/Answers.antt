-- `session_link::unregister` meets its contract.
-- Assumes nothing.
use mathlib.Core.Path.{refl}
use Rattle.session_link.proofs.unregister.Goals as goal

pub returns : goal.returns
returns c = refl
