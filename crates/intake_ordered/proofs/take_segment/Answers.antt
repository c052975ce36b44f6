-- `take_segment` meets its contract: a head whose text is the segment's name, and buckets. Assumes nothing.
use borrow.Author.Rules.{rules}
use native.Mathlib.Omega.{arith}
use Rattle.name_parents.proofs.PathLaws.{parent-long}
use Rattle.intake_ordered.proofs.TakeLaws.{buckets-kept, segment-taken}
use Rattle.intake_ordered.proofs.take_segment.Goals as goal

pub buckets_apart-requires : goal.buckets_apart-requires
buckets_apart-requires c = let k = c.in_ok-last.ensures in omega (arith, k.to_is, k.room, buckets-kept k)

pub write_head-requires : goal.write_head-requires
write_head-requires c =
    let h = c.in_ok-id.ensures in
    let k = c.in_ok-last.ensures in
    let l = buckets-kept k in
    let s = c.requires.b_len in
    record { record_head_in_bounds = omega (arith, k.to_is, k.room); start_bound = (omega (arith, h.order, h.high), omega (arith, h.high), omega (arith, k.to_is, k.room, s.0)) }

pub returns : goal.returns
returns c =
    segment-taken _ c.requires.parent_value.0 c.requires.parent_value.1 _ _ _ _ (omega arith) c.requires.b_len.0 (c.in_ok-id.ensures) c.is_segment_topic.ensures
    (search rules) (c.in_ok-last.ensures) c.buckets_apart.ensures c.if-not-buckets_apart.false c.write_head.ensures

pub overflow_cast-range : goal.overflow_cast-range
overflow_cast-range c = let h = c.in_ok-id.ensures in omega arith

pub overflow_cast-range-2 : goal.overflow_cast-range-2
overflow_cast-range-2 c = let h = c.in_ok-id.ensures in omega arith

pub slice_bounds-is_segment_topic-count : goal.slice_bounds-is_segment_topic-count
slice_bounds-is_segment_topic-count c = let h = c.in_ok-id.ensures in omega arith

pub slice_bounds-is_segment_topic-start : goal.slice_bounds-is_segment_topic-start
slice_bounds-is_segment_topic-start c = let h = c.in_ok-id.ensures in omega arith

pub slice_bounds-is_segment_topic-end : goal.slice_bounds-is_segment_topic-end
slice_bounds-is_segment_topic-end c = let h = c.in_ok-id.ensures in omega arith

pub slice_bounds-is_segment_topic-count-2 : goal.slice_bounds-is_segment_topic-count-2
slice_bounds-is_segment_topic-count-2 c = parent-long _ c.requires.parent_value.0

pub slice_bounds-is_segment_topic-start-2 : goal.slice_bounds-is_segment_topic-start-2
slice_bounds-is_segment_topic-start-2 c = let h = parent-long _ c.requires.parent_value.0 in omega arith

pub overflow_sub-count : goal.overflow_sub-count
overflow_sub-count c = let k = c.in_ok-last.ensures in omega (arith, k.to_is)
