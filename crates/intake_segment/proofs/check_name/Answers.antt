-- `check_name` meets its contract: the parent's length lets its path be cut off. Assumes nothing.
use native.Mathlib.Omega.{arith}
use mathlib.Core.Path.{sym, ◌∙◌}
use Rattle.name_parents.proofs.PathLaws.{parent-long}
use Rattle.intake_segment.proofs.CheckLaws.{name-no-parent, name-valid, name-other}
use Rattle.intake_segment.proofs.check_name.Goals as goal

pub returns-then-not-parent_valid : goal.returns-then-not-parent_valid
returns-then-not-parent_valid c = name-no-parent _ _ (sym c.requires.parent_valid_value ∙ c.if-not-parent_valid.true)

pub slice_bounds-is_segment_topic-count-2 : goal.slice_bounds-is_segment_topic-count-2
slice_bounds-is_segment_topic-count-2 c = (parent-long _ (sym c.requires.parent_valid_value ∙ c.if-not-parent_valid.false))

pub slice_bounds-is_segment_topic-start-2 : goal.slice_bounds-is_segment_topic-start-2
slice_bounds-is_segment_topic-start-2 c = omega (arith, (parent-long _ (sym c.requires.parent_valid_value ∙ c.if-not-parent_valid.false)))

pub returns-then-is_segment_topic : goal.returns-then-is_segment_topic
returns-then-is_segment_topic c =
    name-valid _ c.requires.segment_is (sym c.requires.parent_valid_value ∙ c.if-not-parent_valid.false) c.is_segment_topic.ensures c.if-is_segment_topic.true

pub returns-else-is_segment_topic : goal.returns-else-is_segment_topic
returns-else-is_segment_topic c =
    name-other _ c.requires.segment_is (sym c.requires.parent_valid_value ∙ c.if-not-parent_valid.false) c.is_segment_topic.ensures c.if-is_segment_topic.false
