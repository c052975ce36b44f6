-- `segment_size` meets its contract: the lengths of the pieces of the segment's message (`message-length` of proofs/FieldLaws).
-- Assumes nothing.
use Prim.Native.Nat.{ℕ, ◌+◌, ◌^◌, ◌<◌}
use native.Mathlib.Omega.{arith}
use mathlib.Core.Path.{◌≡◌, ap}
use lib.ListN.{length, drop}
use borrow.Author.Rules.{rules}
use Rattle.packed.specs.Assignment.{decode_segment}
use Rattle.packed.proofs.AssignmentLaws.{Seen}
use Rattle.wire_writer.specs.Encode.{part_head}
use Rattle.writer_message.specs.Message.{segment_message}
use Rattle.writer.proofs.SizeLaws.{number_short}
use Rattle.writer.proofs.FieldLaws.{head-inside, message-length, message-short, buckets-inside}
use Rattle.writer.proofs.segment_size.Goals.{After-part_head_size, After-read_u16-count}
use Rattle.writer.proofs.segment_size.Goals as goal

-- all sizes together are the message's length, which is not much more than the path's
all-is : (c : After-part_head_size) →
    let a = c.args in
    c.number_size.result + c.number_size-2.result + c.number_size-3.result
    + c.part_head_size.result + c.topic_size-topic.result + c.buckets_size-buckets.result ≡ length (segment_message a.path.now (decode_segment (drop a.p a.s.now)))
all-is c =
    let a = c.args in
    let i = c.read_u64-id.result in
    let seen : Seen a.s.now a.p i c.range_at-range.result c.read_u16-count.result =
    record { id-is = c.read_u64-id.ensures; range-is = c.range_at-range.ensures; count-is = c.read_u16-count.ensures } in
    omega (
      arith,
      c.number_size.ensures,
      c.number_size-2.ensures,
      c.number_size-3.ensures,
      c.buckets_size-buckets.ensures,
      c.topic_size-topic.ensures,
      c.part_head_size.ensures,
      ap (λ (m : ℕ). length (part_head 4 m)) c.topic_size-topic.ensures,
      message-length a.s.now a.p i c.range_at-range.result c.read_u16-count.result seen a.path.now,
    )

all_fit : (c : After-part_head_size) →
    c.number_size.result + c.number_size-2.result + c.number_size-3.result
    + c.part_head_size.result + c.topic_size-topic.result + c.buckets_size-buckets.result < 2 ^ 64
all_fit c =
    let a = c.args in
    omega (arith, c.well_formed, all-is c, message-short a.s.now a.p a.path.now (λ k. search rules))

pub read_u64-id-requires : goal.read_u64-id-requires
read_u64-id-requires c =
    omega (arith, head-inside c.args.s.now c.args.p c.requires)

pub range_at-range-requires : goal.range_at-range-requires
range_at-range-requires c =
    omega (arith, head-inside c.args.s.now c.args.p c.requires)

pub read_u16-count-requires : goal.read_u16-count-requires
read_u16-count-requires c =
    omega (arith, head-inside c.args.s.now c.args.p c.requires)

pub overflow_add-numbers : goal.overflow_add-numbers
overflow_add-numbers c =
    omega (
      arith,
      c.number_size.ensures,
      c.number_size-2.ensures,
      number_short 1 c.read_u64-id.result,
      number_short 2 c.range_at-range.result.start,
    )

pub overflow_add-numbers-2 : goal.overflow_add-numbers-2
overflow_add-numbers-2 c =
    omega (
      arith,
      c.number_size.ensures,
      c.number_size-2.ensures,
      c.number_size-3.ensures,
      number_short 1 c.read_u64-id.result,
      number_short 2 c.range_at-range.result.start,
      number_short 3 c.range_at-range.result.end,
    )

pub buckets_size-buckets-requires : goal.buckets_size-buckets-requires
buckets_size-buckets-requires c =
    let a = c.args in
    let i = c.read_u64-id.result in
    let seen : Seen a.s.now a.p i c.range_at-range.result c.read_u16-count.result =
    record { id-is = c.read_u64-id.ensures; range-is = c.range_at-range.ensures; count-is = c.read_u16-count.ensures } in
    record {
      n_in_bounds = buckets-inside a.s.now a.p i c.range_at-range.result c.read_u16-count.result seen c.requires;
      n_bound = omega arith;
    }

pub overflow_add-result : goal.overflow_add-result
overflow_add-result c = omega (arith, all_fit (goal.at.overflow_add-result c).After-part_head_size)

pub overflow_add-result-2 : goal.overflow_add-result-2
overflow_add-result-2 c = omega (arith, all_fit (goal.at.overflow_add-result-2 c).After-part_head_size)

pub overflow_add-result-3 : goal.overflow_add-result-3
overflow_add-result-3 c = omega (arith, all_fit (goal.at.overflow_add-result-3 c).After-part_head_size)

pub returns : goal.returns
returns c = all-is (goal.at.returns c).After-part_head_size
