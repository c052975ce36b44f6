-- `lookup::bucket_holds` meets its contract: a range shares a value with that of the hash alone where it has the hash.
-- Assumes nothing.
use mathlib.Core.Path.{◌∙◌}
use Rattle.key_lookup.proofs.TakesLaws.{any-point}
use Rattle.key_lookup.proofs.bucket_holds.Goals as goal

pub returns : goal.returns
returns c = c.bucket_overlaps.ensures ∙ any-point _ _
