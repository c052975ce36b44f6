-- `test_key::undo_mix` meets its contract: the steps of `undo_mix`, in their order. Assumes nothing.
use Rattle.key_murmur3.specs.Words.{wrapping_add, wrapping_mul}
use Rattle.key_for_hash.specs.Inverse.{undo_mix}
use Rattle.key_for_hash.proofs.undo_mix.Goals as goal

pub returns : goal.returns
unfolding undo_mix wrapping_add wrapping_mul
returns c = cc
