-- Public: this port's names, ranges and kinds are the Rust's: the definitions that contracts cite beside those that the
-- crate magnetar transcribes. Each statement is one equation over every input; proofs/ has their proofs.
--
-- Where the two sides have different types, a table takes one to the other: `paper` takes the Rust's errors to this port's refusals,
-- `read_of`, `source_of`, `range_of`, `length_result` and `test_result` an answer of this port to the Rust's `Result`. The only conditions are on the
-- inputs: a text is UTF-8, as a `str` is; what the Rust gives for them fits the output; and the parent is none that the Rust takes and 02 h
-- forbids (`is_marked`, `is_marked_name`).
-- Assumes nothing.
use Rattle.std.specs.Prelude as std
use Rattle.std.specs.Prelude.{ℕ, ◌-◌, ◌≡◌, Bool, true, false, cond, not, ◌&&◌, List, ◌++◌, length, take, drop, ℤ, leb}
use Rattle.topic_types.specs.declared.KeyRange.{KeyRange}
use Rattle.topic_types.specs.declared.KeyRangeError.{KeyRangeError}
use Rattle.topic_types.specs.declared.SegmentId.{SegmentId}
use Rattle.topic_types.specs.declared.ScalableConsumerType.{ScalableConsumerType}
use Rattle.topic_types.specs.KeyRanges.{new_key_range}
use Rattle.topic_types.specs.ConsumerTypes.{to_wire, from_wire}
use Rattle.refusal.specs.declared.Refusal.{Refusal}
use Rattle.refusal.specs.declared.Refusal.TheVariants as refusal
use Rattle.ranges_calls.specs.Calls.{length_of, contains_of, contains_range_of, is_adjacent_of}
use Rattle.slice_int.specs.Put.{put}
use Rattle.slice.specs.Same.{starts_with}
use Rattle.utf8.specs.Table.{is_utf8}
use Rattle.name_parents.specs.Parents.{topic_scheme, has_three_parts, front_clean, is_parent, path_of}
use Rattle.name_topic.specs.Names.{segment_scheme, segment_scheme_size, segment_topic}
use Rattle.name_topic.specs.Build.{NameOutcome, name_outcome, refuse, canonical_segment_topic}
use Rattle.name_source.specs.Parse.{before_last, parse_segment_topic, segment_source, parent_topic}
use Rattle.name_source.specs.declared.SegmentSource.{SegmentSource as PortSource}
use Rattle.rust_magnetar.specs.Result.{Result, Ok, Err, ◌>>=◌, map-err}
use Rattle.rust_magnetar.specs.Text.{Text}
use Rattle.rust_magnetar.specs.Ranges.{KeyRange-new, KeyRange-len, KeyRange-contains, KeyRange-contains-range, KeyRange-is-adjacent-to}
use Rattle.rust_magnetar.specs.SegmentTopic.{SegmentTopicError, InvalidParent, InvalidSegment, SegmentIdMismatch, InvalidRange}
use Rattle.rust_magnetar.specs.SegmentTopic.{canonical-parent-path, canonical-segment-topic, ParsedTopic, parse-segment-topic}
use Rattle.rust_magnetar.specs.SegmentTopic.{SegmentSource, SegmentSource-new, parent-topic}
use Rattle.rust_magnetar.specs.ConsumerType.{to-pb-i32, from-pb-i32}

-- ---- refusals

-- the Rust's errors; their texts are left out
abbrev pub paper : SegmentTopicError → Refusal
paper (InvalidParent topic) = refusal.InvalidParent
paper (InvalidSegment topic) = refusal.InvalidSegment
paper (SegmentIdMismatch segment-id topic-id) = refusal.SegmentIdMismatch segment-id topic-id
paper (InvalidRange source) = refusal.InvalidKeyRange source

-- ---- what leaves the comparison

-- 02 h: "Sessions and calls with such a parent, or a name of one, leave the set on which the Rust is compared". A path that is one by 01's
-- rule, with a `?` or `#` in its tenant or namespace; where it is none by 01's rule, it is refused on both sides.
abbrev pub is_marked_path : Text → Bool
is_marked_path p = has_three_parts p && not (front_clean p)

-- such a parent
abbrev pub is_marked : Text → Bool
is_marked t = starts_with topic_scheme t && is_marked_path (path_of t)

-- a name of one, whatever its descriptor
abbrev pub is_marked_name : Text → Bool
is_marked_name t = starts_with segment_scheme t && is_marked_path (before_last (drop segment_scheme_size t))

-- no other text has to leave it: such a parent is taken by the Rust and refused here
abbrev pub MarkedDiffers : Type 0
MarkedDiffers = (t : Text) → is_marked t ≡ true → (canonical-parent-path t ≡ Ok (path_of t)) × (is_parent t ≡ false)

-- ---- parents and names built

-- `canonical_parent_path`
abbrev pub ParentAgrees : Type 0
ParentAgrees = (t : Text) → is_marked t ≡ false → canonical-parent-path t ≡ cond (is_parent t) (Ok (path_of t)) (Err (InvalidParent t))

-- `canonical_segment_topic`, of a range that `KeyRange::new` has made
abbrev pub SegmentTopicAgrees : Type 0
SegmentTopicAgrees =
    (t : Text) (range : KeyRange) (id : SegmentId) → is_marked t ≡ false → KeyRange-new range.start range.end ≡ Ok range
    → canonical-segment-topic t range id ≡ cond (is_parent t) (Ok (segment_topic (path_of t) range id)) (Err (InvalidParent t))

-- a call with an output: the text at its front and the text's length, or a refusal and the output as it was
abbrev pub outcome_of : List ℕ → Result Text SegmentTopicError → NameOutcome
outcome_of out (Ok text) = name_outcome (std.Ok (length text)) (put out 0 text)
outcome_of out (Err error) = refuse (paper error) out

-- what the Rust gives fits the output
abbrev pub fits : List ℕ → Result Text SegmentTopicError → Bool
fits out (Ok text) = leb (length text) (length out)
fits out (Err error) = true

-- the name builder's call in the Rust: `KeyRange::new`, then `canonical_segment_topic`
abbrev pub build : Text → ℕ → ℕ → SegmentId → Result Text SegmentTopicError
build parent start end id = do
  range ← map-err InvalidRange (KeyRange-new start end)
  canonical-segment-topic parent range id

abbrev pub BuildAgrees : Type 0
BuildAgrees =
    (parent : Text) (start end : ℕ) (id : SegmentId) (out : List ℕ) → is_utf8 parent ≡ true → is_marked parent ≡ false
    → fits out (build parent start end id) ≡ true → canonical_segment_topic parent start end id out ≡ outcome_of out (build parent start end id)

-- ---- names read

-- a name as it was read: its parent is `topic://` and the path that ends at the answered place
abbrev pub read_of : Text → std.Result (ℕ × KeyRange × SegmentId) Refusal → Result ParsedTopic Refusal
read_of t (std.Ok (path_end, range, id)) =
    Ok (record { parent = topic_scheme ++ take (path_end - segment_scheme_size) (drop segment_scheme_size t); key-range = range; id = id })
read_of t (std.Err x) = Err x

-- `parse_segment_topic`
abbrev pub ParseAgrees : Type 0
ParseAgrees = (t : Text) → is_marked_name t ≡ false → map-err paper (parse-segment-topic t) ≡ read_of t (parse_segment_topic t)

abbrev pub source_of : Text → std.Result PortSource Refusal → Result SegmentSource Refusal
source_of t (std.Ok s) = Ok (record { segment-id = s.segment_id; topic = t; key-range = s.key_range })
source_of t (std.Err x) = Err x

-- `SegmentSource::new`
abbrev pub SourceAgrees : Type 0
SourceAgrees =
    (id : SegmentId) (t : Text) → is_utf8 t ≡ true → is_marked_name t ≡ false
    → map-err paper (SegmentSource-new id t) ≡ source_of t (segment_source id t)

-- `parent_topic` of the source that `SegmentSource::new` makes of the name and the name's own id
abbrev pub parent_of : Text → Result Text SegmentTopicError
parent_of t = do
  name ← parse-segment-topic t
  made ← SegmentSource-new name.id t
  Ok (parent-topic made)

abbrev pub ParentTopicAgrees : Type 0
ParentTopicAgrees =
    (t : Text) (out : List ℕ) → is_utf8 t ≡ true → is_marked_name t ≡ false → fits out (parent_of t) ≡ true
    → parent_topic t out ≡ outcome_of out (parent_of t)

-- ---- ranges given by their ends

abbrev pub range_of : std.Result KeyRange KeyRangeError → Result KeyRange KeyRangeError
range_of (std.Ok range) = Ok range
range_of (std.Err error) = Err error

abbrev pub length_result : std.Result ℕ Refusal → Result ℕ Refusal
length_result (std.Ok n) = Ok n
length_result (std.Err x) = Err x

abbrev pub test_result : std.Result Bool Refusal → Result Bool Refusal
test_result (std.Ok b) = Ok b
test_result (std.Err x) = Err x

-- `KeyRange::new`
abbrev pub NewAgrees : Type 0
NewAgrees = (start end : ℕ) → KeyRange-new start end ≡ range_of (new_key_range start end)

-- `KeyRange::new`, then `len`
abbrev pub len : ℕ → ℕ → Result ℕ KeyRangeError
len start end = do
  range ← KeyRange-new start end
  Ok (KeyRange-len range)

abbrev pub LengthAgrees : Type 0
LengthAgrees = (start end : ℕ) → map-err refusal.InvalidKeyRange (len start end) ≡ length_result (length_of start end)

-- `contains`
abbrev pub contains : ℕ → ℕ → ℕ → Result Bool KeyRangeError
contains start end hash = do
  range ← KeyRange-new start end
  Ok (KeyRange-contains range hash)

abbrev pub ContainsAgrees : Type 0
ContainsAgrees = (start end hash : ℕ) → map-err refusal.InvalidKeyRange (contains start end hash) ≡ test_result (contains_of start end hash)

-- a test of two ranges: `contains_range`, `is_adjacent_to`
abbrev pub both : (KeyRange → KeyRange → Bool) → ℕ → ℕ → ℕ → ℕ → Result Bool KeyRangeError
both test start end other-start other-end = do
  range ← KeyRange-new start end
  other ← KeyRange-new other-start other-end
  Ok (test range other)

abbrev pub ContainsRangeAgrees : Type 0
ContainsRangeAgrees =
    (start end other-start other-end : ℕ)
    → map-err refusal.InvalidKeyRange (both KeyRange-contains-range start end other-start other-end)
    ≡ test_result (contains_range_of start end other-start other-end)

abbrev pub AdjacentAgrees : Type 0
AdjacentAgrees =
    (start end other-start other-end : ℕ)
    → map-err refusal.InvalidKeyRange (both KeyRange-is-adjacent-to start end other-start other-end)
    ≡ test_result (is_adjacent_of start end other-start other-end)

-- ---- the kind of a consumer on the wire

abbrev pub ToWireAgrees : Type 0
ToWireAgrees = (kind : ScalableConsumerType) → to-pb-i32 kind ≡ to_wire kind

abbrev pub FromWireAgrees : Type 0
FromWireAgrees = (value : ℤ) → from-pb-i32 value ≡ from_wire value
