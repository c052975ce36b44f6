-- `packed::buckets_ok` meets its contract: buckets that rise are valid, and others are compared pairwise or marked. Assumes nothing.
use mathlib.Core.Path.{sym, ◌∙◌}
use Rattle.packed.proofs.AssignmentLaws.{rising-ok}
use Rattle.packed.proofs.buckets_ok.Goals as goal

pub returns-then-rise_by_words : goal.returns-then-rise_by_words
returns-then-rise_by_words c = sym (rising-ok 0 _ (sym c.rise_by_words.ensures ∙ c.if-rise_by_words.true))
