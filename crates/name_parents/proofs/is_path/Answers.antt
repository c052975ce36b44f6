-- `is_path` meets its contract: the path from the part's first byte on.
-- Assumes nothing.
use Rattle.name_parents.proofs.is_path.Goals as goal

pub returns : goal.returns
returns c = c.is_path_from.ensures
