-- `read_range` meets its contract: both ends are numbers of the part, and what `int32` gives fits its field. Assumes nothing.
use mathlib.Core.Path.{◌≡◌, ap, ◌∙◌}
use borrow.Author.Rules.{rules}
use mir.Syntax.{w32}
use mir.Val.{to_z, of_z}
use Rattle.wire_values.specs.Integers.{int32_of}
use Rattle.wire_readers.specs.Messages.{int_range_of}
use Rattle.wire_readers.proofs.read_range.Goals as goal

pub returns : goal.returns
unfolding int_range_of
returns c =
    let a : to_z w32 (of_z w32 c.int32-start.result) ≡ c.int32-start.result = search rules in
    let b : to_z w32 (of_z w32 c.int32-end.result) ≡ c.int32-end.result = search rules in
    let d = c.int32-start.ensures ∙ ap int32_of c.number.ensures in
    rw (a, b, d, c.int32-end.ensures ∙ ap int32_of c.number-2.ensures)
