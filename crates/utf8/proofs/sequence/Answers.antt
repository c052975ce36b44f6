-- `sequence` meets its contract: the first byte leads to a row of the table, or lies between two rows, or behind the last.
--
-- The answers stand by the table's rows, `row-1` to `row-9` (`lead-row` counts them from 0). The checker asks for the
-- rows with one first byte before those with a span of them, whatever their order in the code; so does the list below.
-- Assumes nothing.
use native.Mathlib.Omega.{arith}
use mathlib.Core.Path.{sym, ◌∙◌}
use Rattle.utf8.specs.Table.{table, fits}
use Rattle.utf8.proofs.RowLaws.{lead-row, lead-gap, sequence-nil}
use Rattle.utf8.proofs.sequence.Goals as goal

pub returns-then-s-eq0 : goal.returns-then-s-eq0
returns-then-s-eq0 c = sym (sequence-nil _ c.if-s-eq0.true)

pub returns-in-0-to-127 : goal.returns-in-0-to-127
unfolding table fits
returns-in-0-to-127 c = sym (lead-row _ 0 (omega arith) (omega arith) (omega arith) (omega arith))

pub returns-in-194-to-223 : goal.returns-in-194-to-223
unfolding table
returns-in-194-to-223 c = c.two.ensures ∙ sym (lead-row _ 1 (omega arith) (omega arith) (omega arith) (omega arith))

pub returns-in-224 : goal.returns-in-224
unfolding table
returns-in-224 c = c.three.ensures ∙ sym (lead-row _ 2 (omega arith) (omega arith) (omega arith) (omega arith))

pub returns-in-225-to-236 : goal.returns-in-225-to-236
unfolding table
returns-in-225-to-236 c = c.three-in-225-to-236.ensures ∙ sym (lead-row _ 3 (omega arith) (omega arith) (omega arith) (omega arith))

pub returns-in-237 : goal.returns-in-237
unfolding table
returns-in-237 c = c.three-in-237.ensures ∙ sym (lead-row _ 4 (omega arith) (omega arith) (omega arith) (omega arith))

pub returns-in-238-to-239 : goal.returns-in-238-to-239
unfolding table
returns-in-238-to-239 c = c.three-in-238-to-239.ensures ∙ sym (lead-row _ 5 (omega arith) (omega arith) (omega arith) (omega arith))

pub returns-in-240 : goal.returns-in-240
unfolding table
returns-in-240 c = c.four.ensures ∙ sym (lead-row _ 6 (omega arith) (omega arith) (omega arith) (omega arith))

pub returns-in-241-to-243 : goal.returns-in-241-to-243
unfolding table
returns-in-241-to-243 c = c.four-in-241-to-243.ensures ∙ sym (lead-row _ 7 (omega arith) (omega arith) (omega arith) (omega arith))

pub returns-in-244 : goal.returns-in-244
unfolding table
returns-in-244 c = c.four-in-244.ensures ∙ sym (lead-row _ 8 (omega arith) (omega arith) (omega arith) (omega arith))

-- 80 to C1
pub returns-in_default : goal.returns-in_default
unfolding table
returns-in_default c = sym (lead-gap _ 0 (omega arith) (omega arith) (omega arith) (omega arith))

-- F5 to FF
pub returns-in_default-2 : goal.returns-in_default-2
unfolding table
returns-in_default-2 c = sym (lead-gap _ 8 (omega arith) (omega arith) (omega arith) (omega arith))
