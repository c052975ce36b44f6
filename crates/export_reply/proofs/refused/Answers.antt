-- `reply::refused` meets its contract: each arm is `refused-reply` at its variant.
-- Assumes nothing.
use Prim.Native.Nat.{ℕ}
use native.Mathlib.Omega.{arith}
use mathlib.Core.Path.{◌≡◌, ap, ◌∙◌}
use Rattle.refusal.specs.declared.Refusal.{Refusal}
use Rattle.refusal.specs.Refusals.{number_of, values_of}
use Rattle.export_reply.specs.Replies.{reply_with, word_at, word_of, refused_reply}
use Rattle.export_reply.proofs.ReplyLaws.{broker-reply, bucket-reply, refused-reply, no-values}
use Rattle.export_reply.proofs.refused.Goals as goal

-- the arm of a variant v
arm : {x v : Refusal} {n : ℕ} → n ≡ number_of x → x ≡ v → reply_with 0 n (values_of v) ≡ refused_reply x
arm e f = refused-reply _ e (ap values_of f)

pub returns-in-InvalidRange : goal.returns-in-InvalidRange
unfolding reply_with word_at word_of
returns-in-InvalidRange c = c.segment_range.ensures ∙ arm c.number-n.ensures c.in-InvalidRange.is

pub returns-in-InvalidKeyRange : goal.returns-in-InvalidKeyRange
unfolding reply_with word_at word_of
returns-in-InvalidKeyRange c = c.range.ensures ∙ arm c.number-n.ensures c.in-InvalidKeyRange.is

pub returns-in-InvalidBucketRange : goal.returns-in-InvalidBucketRange
returns-in-InvalidBucketRange c =
    let k = c in
    c.more.ensures ∙
    bucket-reply k.number-n.ensures k.in-InvalidBucketRange.is
    (omega arith) (omega arith)
    c.word.ensures c.word-in-InvalidBucketRange.ensures

pub returns-in-OverlappingBucketRanges : goal.returns-in-OverlappingBucketRanges
unfolding reply_with word_at word_of
returns-in-OverlappingBucketRanges c = c.more-in-OverlappingBucketRanges.ensures ∙ arm c.number-n.ensures c.in-OverlappingBucketRanges.is

pub returns-in-AttachmentMismatch : goal.returns-in-AttachmentMismatch
unfolding reply_with word_at word_of
returns-in-AttachmentMismatch c = c.more-in-AttachmentMismatch.ensures ∙ arm c.number-n.ensures c.in-AttachmentMismatch.is

pub returns-in-DuplicateSegment : goal.returns-in-DuplicateSegment
unfolding reply_with word_at word_of
returns-in-DuplicateSegment c = c.more-in-DuplicateSegment.ensures ∙ arm c.number-n.ensures c.in-DuplicateSegment.is

pub returns-in-Broker : goal.returns-in-Broker
returns-in-Broker c =
    c.more-in-Broker.ensures ∙
    broker-reply c.number-n.ensures c.in-Broker.is
    (omega arith) c.word-in-Broker.ensures

pub returns-in-Empty : goal.returns-in-Empty
unfolding reply_with word_at word_of
returns-in-Empty c = c.more-in-Empty.ensures ∙ arm c.number-n.ensures c.in-Empty.is

pub returns-in-EmptyUpdate : goal.returns-in-EmptyUpdate
unfolding reply_with word_at word_of
returns-in-EmptyUpdate c = c.more-in-EmptyUpdate.ensures ∙ arm c.number-n.ensures c.in-EmptyUpdate.is

pub returns-in-SegmentIdMismatch : goal.returns-in-SegmentIdMismatch
unfolding reply_with word_at word_of
returns-in-SegmentIdMismatch c = c.more-in-SegmentIdMismatch.ensures ∙ arm c.number-n.ensures c.in-SegmentIdMismatch.is

pub returns-in-IncarnationMismatch : goal.returns-in-IncarnationMismatch
unfolding reply_with word_at word_of
returns-in-IncarnationMismatch c = c.more-in-IncarnationMismatch.ensures ∙ arm c.number-n.ensures c.in-IncarnationMismatch.is

pub returns-in-ConsumerMismatch : goal.returns-in-ConsumerMismatch
unfolding reply_with word_at word_of
returns-in-ConsumerMismatch c = c.more-in-ConsumerMismatch.ensures ∙ arm c.number-n.ensures c.in-ConsumerMismatch.is

pub returns-in-NonAdvancingIncarnation : goal.returns-in-NonAdvancingIncarnation
unfolding reply_with word_at word_of
returns-in-NonAdvancingIncarnation c = c.more-in-NonAdvancingIncarnation.ensures ∙ arm c.number-n.ensures c.in-NonAdvancingIncarnation.is

pub returns-in-CrossIncarnationEpochRegression : goal.returns-in-CrossIncarnationEpochRegression
unfolding reply_with word_at word_of
returns-in-CrossIncarnationEpochRegression c = c.more-in-CrossIncarnationEpochRegression.ensures ∙ arm c.number-n.ensures c.in-CrossIncarnationEpochRegression.is

pub returns-in-StaleEpoch : goal.returns-in-StaleEpoch
unfolding reply_with word_at word_of
returns-in-StaleEpoch c = c.more-in-StaleEpoch.ensures ∙ arm c.number-n.ensures c.in-StaleEpoch.is

pub returns-in-PreBaselineBufferFull : goal.returns-in-PreBaselineBufferFull
unfolding reply_with word_at word_of
returns-in-PreBaselineBufferFull c = c.more-in-PreBaselineBufferFull.ensures ∙ arm c.number-n.ensures c.in-PreBaselineBufferFull.is

pub returns-in-WatchMismatch : goal.returns-in-WatchMismatch
unfolding reply_with word_at word_of
returns-in-WatchMismatch c = c.more-in-WatchMismatch.ensures ∙ arm c.number-n.ensures c.in-WatchMismatch.is

pub returns-in-BucketOutsideSegment : goal.returns-in-BucketOutsideSegment
unfolding reply_with word_at word_of
returns-in-BucketOutsideSegment c = c.more-in-BucketOutsideSegment.ensures ∙ arm c.number-n.ensures c.in-BucketOutsideSegment.is

pub returns-in_default : goal.returns-in_default
unfolding reply_with word_at word_of
returns-in_default c =
    let d = c.in_default in
    c.more-in_default.ensures ∙
    refused-reply c.args.x c.number-n.ensures
    (no-values c.args.x (record {
      invalid_range = d.not-InvalidRange;
      invalid_key_range = d.not-InvalidKeyRange;
      invalid_bucket_range = d.not-InvalidBucketRange;
      overlapping = d.not-OverlappingBucketRanges;
      attachment = d.not-AttachmentMismatch;
      duplicate = d.not-DuplicateSegment;
      broker = d.not-Broker;
      empty = d.not-Empty;
      empty_update = d.not-EmptyUpdate;
      segment_id = d.not-SegmentIdMismatch;
      incarnation = d.not-IncarnationMismatch;
      consumer = d.not-ConsumerMismatch;
      non_advancing = d.not-NonAdvancingIncarnation;
      regression = d.not-CrossIncarnationEpochRegression;
      stale = d.not-StaleEpoch;
      buffer_full = d.not-PreBaselineBufferFull;
      watch = d.not-WatchMismatch;
      outside = d.not-BucketOutsideSegment;
    }))
