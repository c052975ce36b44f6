-- `cuddrewyn_key_for_hash` meets its contract: what the call under it gives, in numbers.
-- Assumes nothing.
use mathlib.Core.Path.{ap, ◌∙◌}
use Rattle.export.specs.Exports.{key_reply}
use Rattle.export.proofs.key_calls.cuddrewyn_key_for_hash.Goals as goal

pub returns : goal.returns
returns c = c.key_reply.ensures ∙ ap key_reply c.key_for_hash.ensures
