-- `steps_table` meets its contract: its 256 entries are the values of `steps`, which antt computes.
-- Assumes nothing.
use Rattle.key_murmur3.specs.Words.{xor}
use Rattle.name_parents.proofs.Table.{values-at}
use Rattle.crc32.specs.Crc.{step, steps}
use Rattle.crc32.proofs.steps_table.Goals as goal

pub returns : goal.returns
unfolding xor step steps
returns c = values-at steps 256
