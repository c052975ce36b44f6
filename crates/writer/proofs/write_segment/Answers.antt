-- `write_segment` meets its contract: the six pieces of the segment's message are written one behind the other (`Writing` of
-- proofs/WritingLaws). Assumes nothing.
use Prim.Native.Nat.{ℕ, ◌+◌}
use native.Mathlib.Omega.{arith}
use mathlib.Core.List.{List}
use lib.ListN.{drop}
use Rattle.packed.specs.Assignment.{decode_segment}
use Rattle.packed.proofs.AssignmentLaws.{Seen}
use Rattle.writer_message.specs.Message.{segment_message}
use Rattle.writer.proofs.WritingLaws.{Writing, writing_start, writing-as, writing-room, writing-next, writing-end}
use Rattle.writer.proofs.FieldLaws.{head-inside, segment_pieces, message-at, buckets-inside}
use Rattle.writer.proofs.write_segment.Goals.{After-read_u16-count}
use Rattle.writer.proofs.write_segment.Goals as goal

seen : (c : After-read_u16-count) →
    let a = c.args in
    Seen a.s.now a.p c.read_u64-id.result c.range_at-range.result c.read_u16-count.result
seen c = record { id-is = c.read_u64-id.ensures; range-is = c.range_at-range.ensures; count-is = c.read_u16-count.ensures }

abbrev pieces : After-read_u16-count → List (List ℕ)
pieces c =
    let a = c.args in
    let i = c.read_u64-id.result in
    segment_pieces a.path.now i c.range_at-range.result c.read_u16-count.result a.s.now (a.p + 14)

-- so many of the pieces are gone
abbrev Goes : After-read_u16-count → List ℕ → ℕ → ℕ → Type 0
Goes c now at gone =
    let a = c.args in
    Writing a.out.now a.to (segment_message a.path.now (decode_segment (drop a.p a.s.now))) now at (drop gone (pieces c))

all_left : (c : After-read_u16-count) → let a = c.args in Goes c a.out.now a.to 0
all_left c =
    let a = c.args in
    let i = c.read_u64-id.result in
    writing-as (pieces c)
    (message-at a.s.now a.p i c.range_at-range.result c.read_u16-count.result (seen c) a.path.now)
    (writing_start a.out.now a.to _ c.requires.s_in_bounds_2)

pub read_u64-id-requires : goal.read_u64-id-requires
read_u64-id-requires c =
    omega (arith, head-inside c.args.s.now c.args.p c.requires.s_in_bounds)

pub range_at-range-requires : goal.range_at-range-requires
range_at-range-requires c =
    omega (arith, head-inside c.args.s.now c.args.p c.requires.s_in_bounds)

pub read_u16-count-requires : goal.read_u16-count-requires
read_u16-count-requires c =
    omega (arith, head-inside c.args.s.now c.args.p c.requires.s_in_bounds)

pub write_number-start-requires : goal.write_number-start-requires
write_number-start-requires c = (omega arith, writing-room (all_left (goal.at.write_number-start-requires c).After-read_u16-count))

pub write_number-end-requires : goal.write_number-end-requires
write_number-end-requires c =
    let k = (goal.at.write_number-end-requires c).After-read_u16-count in
    let id : Goes k c.write_number-start.new.out c.write_number-start.result 1 = writing-next (all_left k) _ _ c.write_number-start.ensures in
    (omega arith, writing-room id)

pub write_number-head-requires : goal.write_number-head-requires
write_number-head-requires c =
    let k = (goal.at.write_number-head-requires c).After-read_u16-count in
    let id : Goes k c.write_number-start.new.out c.write_number-start.result 1 = writing-next (all_left k) _ _ c.write_number-start.ensures in
    let start : Goes k c.write_number-end.new.out c.write_number-end.result 2 = writing-next id _ _ c.write_number-end.ensures in
    (omega arith, writing-room start)

pub write_part_head-topic-requires : goal.write_part_head-topic-requires
write_part_head-topic-requires c =
    let k = (goal.at.write_part_head-topic-requires c).After-read_u16-count in
    let id : Goes k c.write_number-start.new.out c.write_number-start.result 1 = writing-next (all_left k) _ _ c.write_number-start.ensures in
    let start : Goes k c.write_number-end.new.out c.write_number-end.result 2 = writing-next id _ _ c.write_number-end.ensures in
    let end : Goes k c.write_number-head.new.out c.write_number-head.result 3 = writing-next start _ _ c.write_number-head.ensures in
    let e = c.topic_size.ensures in
    (omega arith, rw e (writing-room end))

pub write_topic-buckets-requires : goal.write_topic-buckets-requires
write_topic-buckets-requires c =
    let k = (goal.at.write_topic-buckets-requires c).After-read_u16-count in
    let id : Goes k c.write_number-start.new.out c.write_number-start.result 1 = writing-next (all_left k) _ _ c.write_number-start.ensures in
    let start : Goes k c.write_number-end.new.out c.write_number-end.result 2 = writing-next id _ _ c.write_number-end.ensures in
    let end : Goes k c.write_number-head.new.out c.write_number-head.result 3 = writing-next start _ _ c.write_number-head.ensures in
    let e = c.topic_size.ensures in
    let head : Goes k c.write_part_head-topic.new.out c.write_part_head-topic.result 4 = writing-next end _ _ (rw e at c.write_part_head-topic.ensures) in
    writing-room head

pub overflow_add-p-3 : goal.overflow_add-p-3
overflow_add-p-3 c = omega (arith, c.well_formed, head-inside c.args.s.now c.args.p c.requires.s_in_bounds)

pub write_buckets-requires : goal.write_buckets-requires
write_buckets-requires c =
    let k = (goal.at.write_buckets-requires c).After-read_u16-count in
    let id : Goes k c.write_number-start.new.out c.write_number-start.result 1 = writing-next (all_left k) _ _ c.write_number-start.ensures in
    let start : Goes k c.write_number-end.new.out c.write_number-end.result 2 = writing-next id _ _ c.write_number-end.ensures in
    let end : Goes k c.write_number-head.new.out c.write_number-head.result 3 = writing-next start _ _ c.write_number-head.ensures in
    let e = c.topic_size.ensures in
    let head : Goes k c.write_part_head-topic.new.out c.write_part_head-topic.result 4 = writing-next end _ _ (rw e at c.write_part_head-topic.ensures) in
    let topic : Goes k c.write_topic-buckets.new.out c.write_topic-buckets.result 5 = writing-next head _ _ c.write_topic-buckets.ensures in
    let a = c.args in
    record {
      n_in_bounds = buckets-inside a.s.now a.p c.read_u64-id.result c.range_at-range.result c.read_u16-count.result (seen k) c.requires.s_in_bounds;
      s_in_bounds = writing-room topic;
    }

pub returns : goal.returns
returns c =
    let k = (goal.at.returns c).After-read_u16-count in
    let id : Goes k c.write_number-start.new.out c.write_number-start.result 1 = writing-next (all_left k) _ _ c.write_number-start.ensures in
    let start : Goes k c.write_number-end.new.out c.write_number-end.result 2 = writing-next id _ _ c.write_number-end.ensures in
    let end : Goes k c.write_number-head.new.out c.write_number-head.result 3 = writing-next start _ _ c.write_number-head.ensures in
    let e = c.topic_size.ensures in
    let head : Goes k c.write_part_head-topic.new.out c.write_part_head-topic.result 4 = writing-next end _ _ (rw e at c.write_part_head-topic.ensures) in
    let topic : Goes k c.write_topic-buckets.new.out c.write_topic-buckets.result 5 = writing-next head _ _ c.write_topic-buckets.ensures in
    let buckets : Goes k c.write_buckets.new.out c.write_buckets.result 6 = writing-next topic _ _ c.write_buckets.ensures in
    writing-end buckets
