-- `delta::read_delta` meets its contract: the answer of `read_front` says it, and whether bytes are left over.
-- Assumes nothing.
use mathlib.Core.Path.{sym, ◌∙◌}
use Rattle.packed_delta.proofs.ReadLaws.{delta-none, delta-told}
use Rattle.packed_delta.proofs.read_delta.Goals as goal

pub returns : goal.returns
returns c =
    let d = c.in_ok-lost in
    c.then_some.ensures ∙ delta-told c.args.s.now d.lost d.gained d.size (sym d.was ∙ c.read_front.ensures)

pub returns-in_err-lost : goal.returns-in_err-lost
returns-in_err-lost c = c.from_residual.ensures ∙ delta-none c.args.s.now (sym c.in_err-lost.was ∙ c.read_front.ensures)
