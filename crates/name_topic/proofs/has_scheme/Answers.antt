-- `has_scheme` meets its contract: eight bytes as one number, then two.
-- Assumes nothing.
use mathlib.Core.Path.{sym, ap, ◌∙◌}
use lib.Dec.{eqb}
use borrow.Author.Rules.{rules}
use borrow.Author.Tests.{ne_eqb}
use Rattle.name_topic.proofs.CompareLaws.{scheme-other, scheme-word}
use Rattle.name_topic.proofs.has_scheme.Goals as goal

pub returns-then-read_u64-eq-SEGMENT_COLON : goal.returns-then-read_u64-eq-SEGMENT_COLON
returns-then-read_u64-eq-SEGMENT_COLON c =
    let word = sym c.read_u64.ensures ∙ c.if-read_u64-eq-SEGMENT_COLON.true in
    ap (λ n. eqb n 0x2F2F) c.read_u16.ensures
    ∙ scheme-word c.args.text.now c.requires (λ i. search rules) word

pub returns-else-read_u64-eq-SEGMENT_COLON : goal.returns-else-read_u64-eq-SEGMENT_COLON
returns-else-read_u64-eq-SEGMENT_COLON c =
    let other = c.if-read_u64-eq-SEGMENT_COLON.false in
    let word = c.read_u64.ensures in
    ne_eqb _ _ other ∙ sym (scheme-other c.args.text.now (λ e. other (word ∙ e)))
