-- `murmur3::block_at` meets its contract: four bytes, each with its weight (`low-four` of proofs/HashLaws).
-- Assumes nothing.
use Rattle.std.proofs.Common.{arith, rules}
use Rattle.key_murmur3.proofs.HashLaws.{low-four}
use Rattle.key_murmur3.proofs.block_at.Goals as goal

pub returns : goal.returns
returns c =
    let a = c.args in
    omega (arith, low-four a.s.now a.at (omega arith))
