-- `is_packed` meets its contract: what `read_whole` takes starts with a packed assignment (`starts-whole`).
-- Assumes nothing.
use Rattle.test_vectors.proofs.VectorLaws.{starts-whole}
use Rattle.test_vectors.proofs.delta_vectors.is_packed.Goals as goal

pub returns-in-Some : goal.returns-in-Some
returns-in-Some c t = starts-whole _ _ _ c.in-Some.ensures
