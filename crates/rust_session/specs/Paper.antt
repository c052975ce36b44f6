-- Public: the Rust's errors and the refusals of 01, one beside the other. Numbers are kept; of the texts the broker's
-- alone is (`text_of`).
-- Assumes nothing.
use Rattle.std.specs.Prelude.{[]}
use Rattle.refusal.specs.declared.Refusal.{Refusal}
use Rattle.refusal.specs.declared.Refusal.TheVariants as refusal
use Rattle.rust_magnetar.specs.Text.{Text}
use Rattle.rust_magnetar.specs.Assignment.{AssignmentError, ConsumerMismatch, StaleEpoch, IncarnationMismatch, NonAdvancingIncarnation}
use Rattle.rust_magnetar.specs.Assignment.{CrossIncarnationEpochRegression, PreBaselineBufferFull, DuplicateSegment, InvalidRange}
use Rattle.rust_magnetar.specs.Assignment.{InvalidBucketRange, OverlappingBucketRanges, AttachmentMismatch, SegmentTopic, Broker, Empty}
use Rattle.rust_names.specs.Agree as names

-- an error of a name is told as the crate same_names tells it
abbrev pub paper : AssignmentError → Refusal
paper (InvalidRange id source) = refusal.InvalidRange id source
paper (InvalidBucketRange id index start end) = refusal.InvalidBucketRange id index start end
paper (OverlappingBucketRanges id) = refusal.OverlappingBucketRanges id
paper (SegmentTopic source) = names.paper source
paper (AttachmentMismatch id expected got) = refusal.AttachmentMismatch id
paper (DuplicateSegment id) = refusal.DuplicateSegment id
paper (Broker code message) = refusal.Broker code
paper (Empty request) = refusal.Empty request
paper (IncarnationMismatch got expected) = refusal.IncarnationMismatch got expected
paper (ConsumerMismatch got expected) = refusal.ConsumerMismatch got expected
paper (NonAdvancingIncarnation got prev) = refusal.NonAdvancingIncarnation got prev
paper (CrossIncarnationEpochRegression got floor) = refusal.CrossIncarnationEpochRegression got floor
paper (StaleEpoch got prev) = refusal.StaleEpoch got prev
paper (PreBaselineBufferFull max) = refusal.PreBaselineBufferFull max

-- the text beside the refusal: the broker's
abbrev pub text_of : AssignmentError → Text
text_of (InvalidRange id source) = []
text_of (InvalidBucketRange id index start end) = []
text_of (OverlappingBucketRanges id) = []
text_of (SegmentTopic source) = []
text_of (AttachmentMismatch id expected got) = []
text_of (DuplicateSegment id) = []
text_of (Broker code message) = message
text_of (Empty request) = []
text_of (IncarnationMismatch got expected) = []
text_of (ConsumerMismatch got expected) = []
text_of (NonAdvancingIncarnation got prev) = []
text_of (CrossIncarnationEpochRegression got floor) = []
text_of (StaleEpoch got prev) = []
text_of (PreBaselineBufferFull max) = []
