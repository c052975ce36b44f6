-- `packed::range_at` meets its contract: its two numbers are those of `range_of`. Assumes nothing.
use Rattle.packed.proofs.AssignmentLaws.{range_at}
use Rattle.packed.proofs.range_at.Goals as goal

pub returns : goal.returns
returns c =
    let a = c.args in
    range_at a.s.now a.at c.read_u16-start.result c.read_u16-end.result c.read_u16-start.ensures c.read_u16-end.ensures
