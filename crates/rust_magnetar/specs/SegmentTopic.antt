-- Public: scalable_consumer.rs: names of segments, `SegmentSource`.
-- Assumes nothing.
use Rattle.std.specs.Prelude.{ℕ, ◌+◌, ◌-◌, Bool, true, false, cond, not, ◌&&◌, ◌||◌, List, [], ◌∷◌, ◌++◌, length, take, ◌==◌, nat_le, Option, Some, None}
use Rattle.topic_types.specs.declared.KeyRange.{KeyRange}
use Rattle.topic_types.specs.declared.KeyRangeError.{KeyRangeError}
use Rattle.topic_types.specs.declared.SegmentId.{SegmentId}
use Rattle.rust_magnetar.specs.Result.{Result, Ok, Err, ◌>>=◌, map-err, ok_or}
use Rattle.rust_magnetar.specs.Text.{Text, text-eq, is-empty, strip-prefix, contains-any, ends_with, starts-with, all-bytes, Split, rsplit_once, split, splitn}
use Rattle.rust_magnetar.specs.Numerals.{display, lower-hex-4, u32-from-str-radix, parse-u64}
use Rattle.rust_magnetar.specs.Ranges.{KeyRange-new}

-- SegmentTopicError (NonCanonical is given by no function)
pub data SegmentTopicError : Type 0 where
  InvalidParent : (topic : Text) → SegmentTopicError
  InvalidSegment : (topic : Text) → SegmentTopicError
  SegmentIdMismatch : (segment-id topic-id : SegmentId) → SegmentTopicError
  InvalidRange : (source : KeyRangeError) → SegmentTopicError

-- parts.next().is_some_and(test), with the parts that follow
abbrev pub next-and : (Text → Bool) → (List Text → Bool) → List Text → Bool
next-and test then [] = false
next-and test then (part ∷ parts) = test part && then parts

-- "topic://", "segment://"
abbrev pub topic-scheme : Text
topic-scheme = 0x74 ∷ 0x6F ∷ 0x70 ∷ 0x69 ∷ 0x63 ∷ 0x3A ∷ 0x2F ∷ 0x2F ∷ []

abbrev pub segment-scheme : Text
segment-scheme = 0x73 ∷ 0x65 ∷ 0x67 ∷ 0x6D ∷ 0x65 ∷ 0x6E ∷ 0x74 ∷ 0x3A ∷ 0x2F ∷ 0x2F ∷ []

-- '/', '-', '?', '#'
abbrev pub slash : ℕ
slash = 0x2F

abbrev pub dash : ℕ
dash = 0x2D

abbrev pub question : ℕ
question = 0x3F

abbrev pub hash : ℕ
hash = 0x23

-- canonical_parent_path
abbrev pub parts-valid : List Text → Bool
parts-valid parts =
    next-and (λ part. not (is-empty part))
    (next-and (λ part. not (is-empty part))
    (next-and (λ part. not (is-empty part) && (not (ends_with slash part) && not (contains-any question hash part))) (λ rest. true))) parts

abbrev pub canonical-parent-path : Text → Result Text SegmentTopicError
canonical-parent-path parent-topic = do
  path ← ok_or (InvalidParent parent-topic) (strip-prefix topic-scheme parent-topic)
  cond (not (parts-valid (splitn 3 slash path))) (Err (InvalidParent parent-topic)) (Ok path)

-- KeyRange::to_hex_string: format!("{:04x}-{:04x}", self.start, self.end)
abbrev pub to-hex-string : KeyRange → Text
to-hex-string self = lower-hex-4 self.start ++ (dash ∷ lower-hex-4 self.end)

-- canonical_segment_topic
abbrev pub canonical-segment-topic : Text → KeyRange → SegmentId → Result Text SegmentTopicError
canonical-segment-topic parent-topic key-range segment-id = do
  parent-path ← canonical-parent-path parent-topic
  Ok (segment-scheme ++ (parent-path ++ (slash ∷ (to-hex-string key-range ++ (dash ∷ display segment-id.0)))))

-- parse_canonical_hex_word
abbrev pub is_ascii_digit : ℕ → Bool
is_ascii_digit byte = nat_le 0x30 byte && nat_le byte 0x39

abbrev pub is-hex-byte : ℕ → Bool
is-hex-byte byte = is_ascii_digit byte || (nat_le 0x61 byte && nat_le byte 0x66)

abbrev pub parse-canonical-hex-word : Text → Option ℕ
parse-canonical-hex-word value = cond (length value == 4 && all-bytes is-hex-byte value) (u32-from-str-radix 16 value) None

-- is_canonical_decimal
abbrev pub is-canonical-decimal : Text → Bool
is-canonical-decimal value =
    not (is-empty value) && (all-bytes is_ascii_digit value && (text-eq value (0x30 ∷ []) || not (starts-with 0x30 value)))

-- let (Some(start), Some(end), Some(id), None) = (parts.next(), parts.next(), parts.next(), parts.next()) else { .. };
pub record Descriptor : Type 0 where
  pub start : Text
  pub end : Text
  pub id : Text

abbrev pub descriptor-of : List Text → Option Descriptor
descriptor-of [] = None
descriptor-of (a ∷ []) = None
descriptor-of (a ∷ (b ∷ [])) = None
descriptor-of (a ∷ (b ∷ (c ∷ []))) = Some (record { start = a; end = b; id = c })
descriptor-of (a ∷ (b ∷ (c ∷ (d ∷ rest)))) = None

pub record ParsedTopic : Type 0 where
  pub parent : Text
  pub key-range : KeyRange
  pub id : SegmentId

-- parse_segment_topic
abbrev pub parse-segment-topic : Text → Result ParsedTopic SegmentTopicError
parse-segment-topic topic = do
  path ← ok_or (InvalidSegment topic) (strip-prefix segment-scheme topic)
  halves ← ok_or (InvalidSegment topic) (rsplit_once slash path)
  let parent = topic-scheme ++ halves.before
  ignored ← canonical-parent-path parent
  descriptor ← ok_or (InvalidSegment topic) (descriptor-of (split dash halves.behind))
  start ← ok_or (InvalidSegment topic) (parse-canonical-hex-word descriptor.start)
  end ← ok_or (InvalidSegment topic) (parse-canonical-hex-word descriptor.end)
  id ← cond (not (is-canonical-decimal descriptor.id)) (Err (InvalidSegment topic)) (ok_or (InvalidSegment topic) (parse-u64 descriptor.id))
  key-range ← map-err InvalidRange (KeyRange-new start end)
  Ok (record { parent = parent; key-range = key-range; id = record { 0 = id } })

-- SegmentSource
pub record SegmentSource : Type 0 where
  pub segment-id : SegmentId
  pub topic : Text
  pub key-range : KeyRange

-- SegmentSource::new
abbrev pub SegmentSource-new : SegmentId → Text → Result SegmentSource SegmentTopicError
SegmentSource-new segment-id topic = do
  parsed ← parse-segment-topic topic
  cond (not (parsed.id.0 == segment-id.0)) (Err (SegmentIdMismatch segment-id parsed.id))
      (Ok (record { segment-id = segment-id; topic = topic; key-range = parsed.key-range }))

-- SegmentSource::parent_topic. `rest.get(..n)` is never None: n is 0 or the place of a '/'.
abbrev pub behind-length : Option Split → ℕ
behind-length None = 0
behind-length (Some halves) = length halves.behind + 1

abbrev pub without_end : ℕ → Option Text → Text
without_end n None = []
without_end n (Some rest) = take (length rest - n) rest

abbrev pub parent-topic : SegmentSource → Text
parent-topic self = topic-scheme ++ without_end (behind-length (rsplit_once slash self.topic)) (strip-prefix segment-scheme self.topic)
