-- `murmur3::rotate_left` meets its contract: the two shifts have no bit in common. Assumes nothing.
use Rattle.std.proofs.Common.{rules}
use Rattle.key_murmur3.proofs.WordLaws.{rotate-shifts}
use Rattle.key_murmur3.proofs.rotate_left.Goals as goal

pub returns : goal.returns
returns c = rotate-shifts c.args.x c.args.r c.ranges.x.fits c.requires.1
