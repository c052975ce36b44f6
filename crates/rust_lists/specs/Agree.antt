-- Public: `matches_registration`, `to_pb`, `source` and `segment_topics` are the Rust's (01, The rest): the definitions
-- that contracts cite beside those that the crate magnetar transcribes. Each agreement is one equation; proofs/ has
-- the proofs.
--
-- A packed assignment keeps no name. Below a parent it stands for the Rust's assignment with the same epoch, ids,
-- ranges and buckets, whose names are built of that parent (`as_assignment` of the crate same_session). That this is the
-- Rust's own assignment is `ReadAgrees`: its `try_from_pb`, which tests each name, makes it of what the writer has
-- written.
-- Assumes nothing.
use Rattle.std.specs.Prelude as std
use Rattle.std.specs.Prelude.{ℕ, ◌≤◌, ◌<◌, ◌^◌, ◌≡◌, Bool, true, false, List, map, length, take}
use Rattle.slice.specs.Bytes.{Bytes}
use Rattle.refusal.specs.declared.Refusal.{Refusal}
use Rattle.utf8.specs.Table.{is_utf8}
use Rattle.name_parents.specs.Parents.{is_parent, path_of}
use Rattle.name_topic.specs.Names.{segment_topic}
use Rattle.name_topic.specs.Build as build
use Rattle.name_topic.specs.Build.{canonical_segment_topic}
use Rattle.name_source.specs.Parse.{segment_source}
use Rattle.wire.specs.Fields.{fields_of}
use Rattle.wire_readers.specs.Messages as readers
use Rattle.packed.specs.Assignment as port
use Rattle.packed.specs.Assignment.{decode_assignment, is_assignment}
use Rattle.writer.specs.Write.{write_outcome}
use Rattle.session.specs.declared.SessionRecord.{SessionRecord}
use Rattle.session.specs.Store.{min_store, identity_slot, slot}
use Rattle.session.specs.Identity.{Identity, identity_topic, subscription_of, consumer_name_of, identity_kind, is_identity}
use Rattle.session.specs.Calls.{match_of}
use Rattle.rust_magnetar.specs.Result.{Result, Ok}
use Rattle.rust_magnetar.specs.Text.{Text}
use Rattle.rust_magnetar.specs.SegmentTopic.{SegmentSource}
use Rattle.rust_magnetar.specs.Assignment.{AssignedSegment, source, ConsumerAssignment-try-from-pb, ConsumerAssignment-to-pb}
use Rattle.rust_magnetar.specs.Assignment.{segment-topics}
use Rattle.rust_magnetar.specs.Session.{ScalableConsumerSession, matches-registration}
use Rattle.rust_names.specs.Agree.{source_of}
use Rattle.rust_session.specs.Values.{as_id, as_assignment, as_type}
use Rattle.rust_session.specs.Demand.{opened}

-- ---- matches_registration

-- a session of the Rust with the texts and the kind of an identity slot
pub record HasIdentity (identity : List ℕ) (s : ScalableConsumerSession) : Type 0 where
  pub topic : s.topic ≡ identity_topic identity
  pub subscription : s.subscription ≡ subscription_of identity
  pub consumer-name : s.consumer-name ≡ consumer_name_of identity
  pub consumer-type : s.consumer-type ≡ as_type (identity_kind identity)

-- the Rust's answer
abbrev pub match_if : Bool → std.Result Bool Refusal
match_if true = std.Ok true
match_if false = std.Ok false

-- where neither 1 nor 22 is due
abbrev pub MatchesAgrees : Type 0
MatchesAgrees =
    (store : List ℕ) (s : ScalableConsumerSession) (i : Identity) → min_store ≤ length store → is_identity (slot store identity_slot) ≡ true
    → HasIdentity (slot store identity_slot) s
    → match_of store i ≡ match_if (matches-registration s i.topic i.subscription i.consumer_name i.consumer_type)

-- the session that demand 2 opens is such a session
abbrev pub OpenedHas : Type 0
OpenedHas = (r : SessionRecord) (store : List ℕ) → HasIdentity (slot store identity_slot) (opened r store).session

-- ---- to_pb

-- the message that the writer has written of the packed assignment s, read
abbrev pub written_of : (s parent out : List ℕ) → ℕ → readers.WireAssignment
written_of s parent out n = readers.read_assignment (fields_of (take n (write_outcome s parent out).out))

-- an output has fewer than 2 ^ 64 bytes, as every slice has
abbrev pub ToPbAgrees : Type 0
ToPbAgrees =
    (s parent out : List ℕ) (n : ℕ) → Bytes s → length out < 2 ^ 64 → (write_outcome s parent out).answer ≡ std.Ok n
    → written_of s parent out n ≡ ConsumerAssignment-to-pb (as_assignment parent (decode_assignment s))

-- `try_from_pb` makes the assignment of what was written
abbrev pub ReadAgrees : Type 0
ReadAgrees =
    (s parent out : List ℕ) (n : ℕ) → Bytes s → length out < 2 ^ 64 → (write_outcome s parent out).answer ≡ std.Ok n
    → ConsumerAssignment-try-from-pb (written_of s parent out n) parent ≡ Ok (as_assignment parent (decode_assignment s))

-- ---- source

-- the reader of names, lent a segment's id and the name built of the parent
abbrev pub source_by : (parent : List ℕ) → port.AssignedSegment → Result SegmentSource Refusal
source_by parent g =
    let name = segment_topic (path_of parent) g.range (as_id g.segment_id) in
    source_of name (segment_source (as_id g.segment_id) name)

-- of each segment, in the order of ids: it reads the Rust's source
abbrev pub SourceAgrees : Type 0
SourceAgrees =
    (s parent : List ℕ) → Bytes s → is_assignment s ≡ true → is_parent parent ≡ true → is_utf8 parent ≡ true
    → map (source_by parent) (decode_assignment s).segments
    ≡ map (λ (r : AssignedSegment). Ok (source r)) (as_assignment parent (decode_assignment s)).segments

-- ---- segment_topics

-- the name builder, lent the parent and a segment's range and id
abbrev pub topic_by : (parent out : List ℕ) → port.AssignedSegment → build.NameOutcome
topic_by parent out g = canonical_segment_topic parent g.range.start g.range.end (as_id g.segment_id) out

-- of each segment, in the order of ids: it writes the Rust's topic, or 21 where that does not fit
abbrev pub TopicsAgrees : Type 0
TopicsAgrees =
    (s parent out : List ℕ) → Bytes s → is_assignment s ≡ true → is_parent parent ≡ true → is_utf8 parent ≡ true
    → map (topic_by parent out) (decode_assignment s).segments
    ≡ map (λ (t : Text). build.written t out) (segment-topics (as_assignment parent (decode_assignment s)))
