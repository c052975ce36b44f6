-- `murmur3::wrapping_mul` meets its contract: the product of two words fits 64 bits. Assumes nothing.
use Rattle.std.proofs.Common.{rules}
use Rattle.key_murmur3.proofs.WordLaws.{product-below}
use Rattle.key_murmur3.proofs.wrapping_mul.Goals as goal

pub overflow_mul-result : goal.overflow_mul-result
overflow_mul-result c = record { fits = product-below c.args.a c.args.b c.ranges.a.fits c.ranges.b.fits }
