-- `session_intake::take_ordered_message` meets its contract: field 1 and field n are there, field n ends the message, and its part is an
-- assignment that is taken.
-- Assumes nothing.
use native.Mathlib.Omega.{arith}
use Rattle.session_intake.proofs.IntakeLaws.{field-small, topic-text, ordered-taken}
use Rattle.session_intake.proofs.take_ordered_message.Goals as goal

pub part_at-requires : goal.part_at-requires
part_at-requires c = field-small _ c.requires.assignment_field.0

pub take_ordered-requires : goal.take_ordered-requires
take_ordered-requires c =
    record { b_len = c.requires.assignment_field.1; parent_value = topic-text c.args.store.now c.requires.min_store_in_bounds.1 c.topic_end-end.result c.topic_end-end.ensures }

pub returns : goal.returns
returns c =
    ordered-taken c.args.store.now c.args.m.now c.args.b.now _ c.args.n c.topic_end-end.result c.requires.assignment_field.0
    c.topic_end-end.ensures c.requires.assignment_field.1 (λ i. (c.type_inv.m i).fits) _ _ _ _ _ _ c.in_ok-head.ensures c.in_ok-from.ensures
    (omega arith) c.take_ordered.result c.in_ok-size.was c.take_ordered.ensures

pub slice_bounds-take_ordered-count : goal.slice_bounds-take_ordered-count
slice_bounds-take_ordered-count c = let h = c.in_ok-from.ensures in omega arith

pub slice_bounds-take_ordered-start : goal.slice_bounds-take_ordered-start
slice_bounds-take_ordered-start c = let h = c.in_ok-from.ensures in omega arith

pub slice_bounds-take_ordered-end : goal.slice_bounds-take_ordered-end
slice_bounds-take_ordered-end c = let h = c.in_ok-from.ensures in omega arith
