-- `mask` meets its contract. Assumes nothing.
use Rattle.ranges_marks.proofs.BitLaws.{ones-made}
use Rattle.ranges_marks.proofs.mask.Goals as goal

pub returns : goal.returns
returns c = ones-made _ _ c.requires.0 c.requires.1
