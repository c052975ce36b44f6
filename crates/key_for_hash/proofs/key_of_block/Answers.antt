-- `test_key::key_of_block` meets its contract. Assumes nothing.
use Rattle.std.proofs.Common.{refl}
use Rattle.key_for_hash.specs.Inverse.{key_of_block}
use Rattle.key_for_hash.proofs.key_of_block.Goals as goal

pub returns : goal.returns
unfolding key_of_block
returns c = refl
