-- `moves::lower_rest` meets its contract: the bytes that the words leave are moved next (proofs/MoveLaws).
-- Assumes nothing.
use mathlib.Core.Path.{◌∙◌}
use Rattle.slice_moves.proofs.MoveLaws.{down-rest}
use Rattle.slice_moves.proofs.lower_rest.Goals as goal

pub returns : goal.returns
returns c =
    let m = c in
    let w = m in
    let s = w in
    let a = s.args in
    m.lower_bytes.ensures
    ∙ down-rest a.b.now a.from a.to a.z w.lower_words-i.new.b w.lower_words-i.result w.lower_words-i.ensures s.requires.0 s.requires.1
