-- `murmur3::byte_at` meets its contract: an element of the slice is below 256. Assumes nothing.
use Rattle.std.proofs.Common.{refl, arith, rules}
use Rattle.key_murmur3.proofs.byte_at.Goals as goal

pub overflow_cast-result : goal.overflow_cast-result
overflow_cast-result c = omega (arith, c.shared_slice_known-1.given c.args.i)

pub returns : goal.returns
returns c = (refl, omega (arith, c.shared_slice_known-1.given c.args.i))
