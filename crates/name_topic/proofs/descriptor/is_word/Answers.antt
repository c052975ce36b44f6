-- `is_word` meets its contract: the mark, then four digits as one number.
-- Assumes nothing.
use mathlib.Core.Path.{sym, ap, ◌∙◌}
use lib.Dec.{eqb}
use borrow.Author.Rules.{rules}
use Rattle.slice_int.specs.Be.{be}
use Rattle.name_topic.specs.Names.{hex4}
use Rattle.name_topic.proofs.CompareLaws.{word-mark, word_at}
use Rattle.name_topic.proofs.descriptor.is_word.Goals as goal

pub returns-then-s-at : goal.returns-then-s-at
returns-then-s-at c = let a = c.args in sym (word-mark a.s.now a.at a.mark a.v c.requires c.if-s-at.true)

pub returns : goal.returns
returns c =
    let a = c.args in
    ap (eqb _) c.hex_word.ensures
    ∙ ap (λ n. eqb n (be (hex4 a.v))) c.read_u32.ensures
    ∙ word_at a.s.now a.at a.mark a.v c.requires c.if-s-at.false (λ i. search rules)
