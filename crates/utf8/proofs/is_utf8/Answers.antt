-- `is_utf8` meets its contract: bytes of the first row alone are a text; any other part is read sequence by sequence.
-- Assumes nothing.
use mathlib.Core.Path.{sym, ◌∙◌}
use Rattle.utf8.proofs.TextLaws.{ascii-text}
use Rattle.utf8.proofs.is_utf8.Goals as goal

pub returns-then-all_ascii : goal.returns-then-all_ascii
returns-then-all_ascii c =
    let e = c.if-all_ascii.true in
    e ∙ sym (ascii-text c.args.s.now (c.all_ascii.ensures e))

pub returns-else-all_ascii : goal.returns-else-all_ascii
returns-else-all_ascii c = c.is_text.ensures
