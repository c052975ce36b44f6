-- `murmur3::mix` meets its contract: the steps of `mix`, in their order. Assumes nothing.
use Rattle.std.proofs.Common.{rules}
use Rattle.key_murmur3.specs.Words.{wrapping_add, wrapping_mul, xor}
use Rattle.key_murmur3.specs.Murmur3.{mix}
use Rattle.key_murmur3.proofs.mix.Goals as goal

pub returns : goal.returns
unfolding mix wrapping_add wrapping_mul xor
returns c = cc
