-- `segment_source` meets its contract: each return is the case of `segment_source` that the name read leaves.
-- Assumes nothing.
use mathlib.Core.Path.{sym, ◌∙◌}
use Rattle.std.proofs.lemmas.Result.{err_from_is_err_and}
use Rattle.name_source.proofs.ParseLaws.{source-refused, source-same, source-other}
use Rattle.name_source.proofs.segment_source.Goals as goal

pub returns-in_err-key_range : goal.returns-in_err-key_range
returns-in_err-key_range c =
    let a = c.args in
    let p = err_from_is_err_and c.from_residual.result c.from_residual.ensures.1 in
    rw (p.1, p.2) (sym (source-refused a.id a.topic.now _ (sym c.parse_text.ensures ∙ c.in_err-key_range.was)))

pub returns-then-topic_id-id : goal.returns-then-topic_id-id
returns-then-topic_id-id c =
    let a = c.args in
    let e = sym c.parse_text.ensures ∙ c.in_ok-key_range.was in
    sym (source-other a.id a.topic.now _ _ _ e c.if-topic_id-id.true)

pub returns : goal.returns
returns c =
    let a = c.args in
    let e = sym c.parse_text.ensures ∙ c.in_ok-key_range.was in
    sym (source-same a.id a.topic.now _ _ _ e c.if-topic_id-id.false)
