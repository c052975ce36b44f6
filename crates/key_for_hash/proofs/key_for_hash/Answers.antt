-- `test_key::key_for_hash` meets its contract: the steps of `key_for_hash`, in their order. Assumes nothing.
use Rattle.key_murmur3.specs.Words.{xor}
use Rattle.key_for_hash.specs.Inverse.{block_for_hash, key_for_hash}
use Rattle.key_for_hash.proofs.key_for_hash.Goals as goal

pub returns : goal.returns
unfolding key_for_hash block_for_hash xor
returns c = cc
