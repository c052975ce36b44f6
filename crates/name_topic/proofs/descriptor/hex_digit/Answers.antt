-- `hex_digit` meets its contract: below 10 a digit, else a letter.
-- Assumes nothing.
use native.Mathlib.Omega.{arith}
use Rattle.name_topic.proofs.CompareLaws.{hex-value}
use Rattle.name_topic.proofs.descriptor.hex_digit.Goals as goal

pub returns : goal.returns
returns c = hex-value c.args.n (omega arith)
