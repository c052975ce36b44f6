-- `range_size` meets its contract: the lengths of two numbers' fields. Assumes nothing.
use native.Mathlib.Omega.{arith}
use Rattle.writer.proofs.SizeLaws.{number_short, length-range}
use Rattle.writer.proofs.range_size.Goals as goal

pub overflow_add-result : goal.overflow_add-result
overflow_add-result c =
    let r = c.args.range in
    omega (
      arith,
      c.number_size.ensures,
      c.number_size-2.ensures,
      number_short 1 r.start,
      number_short 2 r.end,
    )

pub returns : goal.returns
returns c =
    let r = c.args.range in
    omega (arith, c.number_size.ensures, c.number_size-2.ensures, length-range r)
