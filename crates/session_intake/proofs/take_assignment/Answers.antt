-- `session_intake::take_assignment` meets its contract: the intake below the topic of the store's first slot.
-- Assumes nothing.
use Rattle.session_intake.proofs.IntakeLaws.{intake-answers}
use Rattle.session_intake.proofs.take_assignment.Goals as goal

pub returns : goal.returns
returns c =
    intake-answers c.args.store.now c.args.m.now c.args.b.now _ _ c.topic_end-end.result c.requires.assignment_field.0
    c.topic_end-end.ensures c.requires.assignment_field.1 (λ i. (c.type_inv.m i).fits) c.take_in.result c.take_in.ensures
