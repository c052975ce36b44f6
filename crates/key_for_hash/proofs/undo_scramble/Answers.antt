-- `test_key::undo_scramble` meets its contract: the steps of `undo_scramble`, in their order. Assumes nothing.
use Rattle.key_murmur3.specs.Words.{wrapping_mul}
use Rattle.key_for_hash.specs.Inverse.{undo_scramble}
use Rattle.key_for_hash.proofs.undo_scramble.Goals as goal

pub returns : goal.returns
unfolding undo_scramble wrapping_mul
returns c = cc
