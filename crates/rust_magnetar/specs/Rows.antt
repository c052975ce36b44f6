-- Internal: no claim cites it; whoever reads the claims may skip it.
--
-- Small examples of `to_pb`, `source`, `segment_topics` and `matches_registration`, by computation.
-- Assumes nothing.
use Rattle.std.specs.Prelude.{◌≡◌, ℕ, true, false, List, [], ◌∷◌, ◌++◌, ℤ, pos, negsuc}
use Rattle.std.specs.Prelude.{refl}
use Rattle.topic_types.specs.declared.KeyRange.{KeyRange}
use Rattle.topic_types.specs.declared.ScalableConsumerType.TheVariants.{Stream, Checkpoint}
use Rattle.wire_readers.specs.declared.IntRange.{IntRange}
use Rattle.wire_readers.specs.Messages.{WireSegment, WireAssignment}
use Rattle.rust_magnetar.specs.Result.{Ok}
use Rattle.rust_magnetar.specs.Text.{Text}
use Rattle.rust_magnetar.specs.SegmentTopic.{topic-scheme, segment-scheme, SegmentSource}
use Rattle.rust_magnetar.specs.Assignment.{AssignedSegment, source, as-i32, ConsumerAssignment, ConsumerAssignment-try-from-pb}
use Rattle.rust_magnetar.specs.Assignment.{ConsumerAssignment-to-pb, segment-topics}
use Rattle.rust_magnetar.specs.Session.{ScalableConsumerSession, new, matches-registration}

-- a/b/c, topic://a/b/c, segment://a/b/c/0010-00ff-3 and segment://a/b/c/8000-ffff-12
abbrev pub path : Text
path = 0x61 ∷ 0x2F ∷ 0x62 ∷ 0x2F ∷ 0x63 ∷ []

abbrev pub parent : Text
parent = topic-scheme ++ path

abbrev pub third : Text
third =
    segment-scheme
    ++ (path ++ (0x2F ∷ 0x30 ∷ 0x30 ∷ 0x31 ∷ 0x30 ∷ 0x2D ∷ 0x30 ∷ 0x30 ∷ 0x66 ∷ 0x66 ∷ 0x2D ∷ 0x33 ∷ []))

abbrev pub twelfth : Text
twelfth =
    segment-scheme
    ++ (path ++ (0x2F ∷ 0x38 ∷ 0x30 ∷ 0x30 ∷ 0x30 ∷ 0x2D ∷ 0x66 ∷ 0x66 ∷ 0x66 ∷ 0x66 ∷ 0x2D ∷ 0x31 ∷ 0x32 ∷ []))

abbrev pub range : ℕ → ℕ → KeyRange
range start end = record { start = start; end = end }

abbrev pub int-range : ℤ → ℤ → IntRange
int-range start end = record { start = start; end = end }

-- two segments at epoch 7, the first with two buckets that fall
abbrev pub first : AssignedSegment
first =
    record {
      segment-id = record { 0 = 3 };
      key-range = range 0x10 0xFF;
      bucket-ranges = range 0x20 0x2F ∷ range 0x10 0x1F ∷ [];
      segment-topic = third;
    }

abbrev pub second : AssignedSegment
second = record { segment-id = record { 0 = 12 }; key-range = range 0x8000 0xFFFF; bucket-ranges = []; segment-topic = twelfth }

abbrev pub held : ConsumerAssignment
held = record { layout-epoch = 7; segments = first ∷ second ∷ [] }

-- the same as a message's struct
abbrev pub first-pb : WireSegment
first-pb =
    record {
      segment_id = 3;
      hash_start = 0x10;
      hash_end = 0xFF;
      segment_topic = third;
      bucket_ranges = int-range (pos 0x20) (pos 0x2F) ∷ int-range (pos 0x10) (pos 0x1F) ∷ [];
    }

abbrev pub second-pb : WireSegment
second-pb = record { segment_id = 12; hash_start = 0x8000; hash_end = 0xFFFF; segment_topic = twelfth; bucket_ranges = [] }

abbrev pub held-pb : WireAssignment
held-pb = record { layout_epoch = 7; segments = first-pb ∷ second-pb ∷ [] }

-- consumer 7 of topic://a/b/c with subscription "s" and name "n", a stream on link 1
abbrev pub session : ScalableConsumerSession
session = new 7 parent (0x73 ∷ []) (0x6E ∷ []) Stream (record { 0 = 1 })

pub record Rows : Type 0 where
  pub to-pb : ConsumerAssignment-to-pb held ≡ held-pb
  -- segments are sorted by id
  pub from-pb : ConsumerAssignment-try-from-pb (record { layout_epoch = 7; segments = second-pb ∷ first-pb ∷ [] }) parent ≡ Ok held
  -- `as i32`
  pub largest : as-i32 0x7FFFFFFF ≡ pos 2147483647
  pub wrapped : as-i32 0x80000000 ≡ negsuc 2147483647
  pub last : as-i32 0xFFFFFFFF ≡ negsuc 0
  pub source_first : source first ≡ record { segment-id = record { 0 = 3 }; topic = third; key-range = range 0x10 0xFF }
  pub topics : segment-topics held ≡ third ∷ twelfth ∷ []
  pub own : matches-registration session parent (0x73 ∷ []) (0x6E ∷ []) Stream ≡ true
  pub other-topic : matches-registration session path (0x73 ∷ []) (0x6E ∷ []) Stream ≡ false
  pub other-subscription : matches-registration session parent (0x6E ∷ []) (0x6E ∷ []) Stream ≡ false
  pub other_name : matches-registration session parent (0x73 ∷ []) (0x73 ∷ []) Stream ≡ false
  pub other-type : matches-registration session parent (0x73 ∷ []) (0x6E ∷ []) Checkpoint ≡ false

pub rows : Rows
rows =
    record {
      to-pb = refl;
      from-pb = refl;
      largest = refl;
      wrapped = refl;
      last = refl;
      source_first = refl;
      topics = refl;
      own = refl;
      other-topic = refl;
      other-subscription = refl;
      other_name = refl;
      other-type = refl;
    }
