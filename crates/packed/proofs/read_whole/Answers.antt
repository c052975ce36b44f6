-- `packed::read_whole` meets its contract: the answer of `read_front` says it, and whether bytes are left over.
-- Assumes nothing.
use mathlib.Core.Path.{sym, ◌∙◌}
use Rattle.packed.proofs.FrontLaws.{whole-told, whole-refused}
use Rattle.packed.proofs.read_whole.Goals as goal

pub returns : goal.returns
returns c =
    c.then_some.ensures ∙ whole-told c.args.s.now c.in_ok-size.size c.in_ok-size.segments (sym c.in_ok-size.was ∙ c.read_front.ensures)

pub returns-in_err-size : goal.returns-in_err-size
returns-in_err-size c =
    c.from_residual.ensures ∙ whole-refused c.args.s.now (sym c.in_err-size.was ∙ c.read_front.ensures)
