-- `murmur3::fmix` meets its contract: the steps of `fmix`, in their order. Assumes nothing.
use Rattle.std.proofs.Common.{rules}
use Rattle.key_murmur3.specs.Words.{wrapping_mul}
use Rattle.key_murmur3.specs.Murmur3.{fmix}
use Rattle.key_murmur3.proofs.fmix.Goals as goal

pub returns : goal.returns
unfolding fmix wrapping_mul
returns c = cc
