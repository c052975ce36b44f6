-- `murmur3::tail_at` meets its contract: each byte is followed by a number of one byte less (`low-at` of proofs/HashLaws).
-- Assumes nothing.
use Rattle.std.proofs.Common.{◌+◌, arith, rules}
use Rattle.key_murmur3.proofs.HashLaws.{low-at, low_end}
use Rattle.key_murmur3.proofs.tail_at.Goals as goal

pub returns-then-s-at : goal.returns-then-s-at
returns-then-s-at c =
    let a = c.args in
    let s = a.s.now in
    omega (arith, low-at s a.at (a.at + 1) (omega arith) (omega arith), low_end s (a.at + 1) (omega arith))

pub returns-then-s-at-2 : goal.returns-then-s-at-2
returns-then-s-at-2 c =
    let a = c.args in
    let s = a.s.now in
    omega (
      arith,
      low-at s a.at (a.at + 1) (omega arith) (omega arith),
      low-at s (a.at + 1) (a.at + 2) (omega arith) (omega arith),
      low_end s (a.at + 2) (omega arith),
    )

pub returns : goal.returns
returns c =
    let a = c.args in
    let s = a.s.now in
    omega (
      arith,
      low-at s a.at (a.at + 1) (omega arith) (omega arith),
      low-at s (a.at + 1) (a.at + 2) (omega arith) (omega arith),
      low-at s (a.at + 2) (a.at + 3) (omega arith) (omega arith),
      low_end s (a.at + 3) (omega arith),
    )
