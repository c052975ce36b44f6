-- `crc32` meets its contract: all bytes are taken in, from all ones on, and the bits turned.
-- Assumes nothing.
use Prim.Native.Nat.{ℕ}
use mathlib.Core.Path.{ap}
use Rattle.key_murmur3.specs.Words.{xor}
use Rattle.crc32.specs.Crc.{crc32}
use Rattle.crc32.proofs.crc32.Goals as goal

pub returns : goal.returns
unfolding xor crc32
returns c = ap (λ (n : ℕ). xor n 0xFFFFFFFF) c.updates.ensures

pub updates-requires : goal.updates-requires
updates-requires c = c.steps_table-table.ensures
