-- `parse_text` meets its contract: a text that is UTF-8 is read as a name.
-- Assumes nothing.
use mathlib.Core.Path.{sym, ◌∙◌}
use Rattle.name_source.proofs.ParseLaws.{text-not-utf8, text-name}
use Rattle.name_source.proofs.parse_text.Goals as goal

pub returns-then-not-is_utf8 : goal.returns-then-not-is_utf8
returns-then-not-is_utf8 c = sym (text-not-utf8 c.args.t.now (sym c.is_utf8.ensures ∙ c.if-not-is_utf8.true))

pub returns : goal.returns
returns c =
    let text = sym c.is_utf8.ensures ∙ c.if-not-is_utf8.false in
    c.parse_segment_topic.ensures ∙ sym (text-name c.args.t.now text)
