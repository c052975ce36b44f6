-- `session_response::registered_with` meets its contract.
-- Assumes nothing.
use Rattle.session_response.proofs.registered_with.Goals as goal

pub returns : goal.returns
returns c = rw c.raised-epoch_floor.ensures
