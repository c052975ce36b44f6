-- `test_key::undo_shift` meets its contract. Assumes nothing.
use Rattle.key_murmur3.specs.Words.{xor}
use Rattle.key_for_hash.specs.Inverse.{undo_shift}
use Rattle.key_for_hash.proofs.undo_shift.Goals as goal

pub returns : goal.returns
unfolding undo_shift xor
returns c = cc
