-- `murmur3::scramble` meets its contract: the steps of `scramble`, in their order. Assumes nothing.
use Rattle.std.proofs.Common.{rules}
use Rattle.key_murmur3.specs.Words.{wrapping_mul}
use Rattle.key_murmur3.specs.Murmur3.{scramble}
use Rattle.key_murmur3.proofs.scramble.Goals as goal

pub returns : goal.returns
unfolding scramble wrapping_mul
returns c = cc
