-- `test_key::undo_fmix` meets its contract: the steps of `undo_fmix`, in their order. Assumes nothing.
use Rattle.key_murmur3.specs.Words.{wrapping_mul}
use Rattle.key_for_hash.specs.Inverse.{undo_fmix}
use Rattle.key_for_hash.proofs.undo_fmix.Goals as goal

pub returns : goal.returns
unfolding undo_fmix wrapping_mul
returns c = cc
