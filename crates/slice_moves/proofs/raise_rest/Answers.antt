-- `moves::raise_rest` meets its contract: the bytes that the words leave are moved next (proofs/MoveLaws).
-- Assumes nothing.
use mathlib.Core.Path.{◌∙◌}
use Rattle.slice_moves.proofs.MoveLaws.{up_rest}
use Rattle.slice_moves.proofs.raise_rest.Goals as goal

pub returns : goal.returns
returns c =
    let m = c in
    let w = m in
    let s = w in
    let a = s.args in
    m.raise_bytes.ensures
    ∙ up_rest a.b.now a.from a.to a.z w.raise_words-i.new.b w.raise_words-i.result w.raise_words-i.ensures s.requires.1
