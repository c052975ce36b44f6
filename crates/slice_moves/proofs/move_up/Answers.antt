-- `moves::move_up` meets its contract: the bytes that the blocks leave are moved next (proofs/MoveLaws).
-- Assumes nothing.
use mathlib.Core.Path.{◌∙◌}
use Rattle.slice_moves.proofs.MoveLaws.{up_rest}
use Rattle.slice_moves.proofs.move_up.Goals as goal

pub returns : goal.returns
returns c =
    let m = c in
    let w = m in
    let s = w in
    let a = s.args in
    m.raise_rest.ensures
    ∙ up_rest a.b.now a.from a.to a.z w.raise_blocks-i.new.b w.raise_blocks-i.result w.raise_blocks-i.ensures s.requires.1
