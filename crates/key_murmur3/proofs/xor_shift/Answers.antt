-- `murmur3::xor_shift` meets its contract. Assumes nothing.
use Rattle.std.proofs.Common.{refl, rules}
use Rattle.key_murmur3.specs.Words.{xor, xor_shift}
use Rattle.key_murmur3.proofs.xor_shift.Goals as goal

pub returns : goal.returns
unfolding xor_shift xor
returns c = refl
