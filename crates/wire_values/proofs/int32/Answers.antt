-- `int32` meets its contract: below 2^31 the low bits themselves, from there on 0 - (2^32 - 1 - low) - 1, which does not wrap.
-- Assumes nothing.
use Prim.Native.Nat.{◌-◌, ◌%◌}
use native.Mathlib.Omega.{arith}
use mathlib.Core.Path.{◌∙◌}
use Rattle.wire_values.proofs.IntegerLaws.{minus-fits, minus-one-fits, minus_one, int32-low, int32-high}
use Rattle.wire_values.proofs.int32.Goals as goal

pub overflow_sub-result-else-low-lt2147483648 : goal.overflow_sub-result-else-low-lt2147483648
overflow_sub-result-else-low-lt2147483648 c = minus-fits (4294967295 - c.args.v % 4294967296) (omega arith)

pub overflow_sub-result-else-low-lt2147483648-2 : goal.overflow_sub-result-else-low-lt2147483648-2
overflow_sub-result-else-low-lt2147483648-2 c = minus-one-fits (4294967295 - c.args.v % 4294967296) (omega arith)

pub returns-then-low-lt2147483648 : goal.returns-then-low-lt2147483648
returns-then-low-lt2147483648 c = int32-low _ (omega arith)

pub returns-else-low-lt2147483648 : goal.returns-else-low-lt2147483648
returns-else-low-lt2147483648 c = minus_one (4294967295 - c.args.v % 4294967296) (omega arith) ∙ int32-high _ (omega arith)
