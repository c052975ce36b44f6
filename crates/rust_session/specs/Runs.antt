-- Internal: no claim cites it; whoever reads the claims may skip it.
--
-- Small runs of the Rust's session, by computation: what the transcription does where a reader of the sources may stumble. Their messages
-- are bytes.
-- Assumes nothing.
use Rattle.std.specs.Prelude.{ℕ, ◌≡◌, refl, Bool, true, false, List, [], ◌∷◌, ◌++◌, map, take, replicate, pos, Option, Some, None}
use Rattle.topic_types.specs.declared.ControllerIncarnation.{ControllerIncarnation}
use Rattle.topic_types.specs.declared.ScalableConsumerType.TheVariants.{Stream}
use Rattle.topic_types.specs.KeyRanges.{key_range}
use Rattle.refusal.specs.declared.Refusal.TheVariants.{StaleEpoch, CrossIncarnationEpochRegression, Broker, Empty, AttachmentMismatch}
use Rattle.refusal.specs.declared.Refusal.TheVariants.{NonAdvancingIncarnation, PreBaselineBufferFull}
use Rattle.utf8.specs.Table.{table, fits, sequence_in, sequence_of, text_after, is_utf8}
use Rattle.name_topic.specs.Names.{hex4, decimal_within, decimal}
use Rattle.wire.specs.Varints.{varint_of}
use Rattle.wire.specs.Field.{key_read, number_body, part_of}
use Rattle.wire.specs.Fields.{fields_of}
use Rattle.wire_schema.specs.Schema.{value_for}
use Rattle.wire_schema.specs.Required.{is_complete}
use Rattle.wire_schema.specs.FirstFault.{first_fault}
use Rattle.wire_values.specs.Integers.{int32_of}
use Rattle.wire_readers.specs.Messages.{read_segment, read_assignment, update_of, response_of}
use Rattle.intake_content.specs.Rows.{parent, name}
use Rattle.session.specs.Trace.{Call, update, response, drain, begin, invalidate}
use Rattle.rust_magnetar.specs.Text.{Text}
use Rattle.rust_magnetar.specs.Assignment.{AssignedSegment, ConsumerAssignment}
use Rattle.rust_magnetar.specs.Session.{AssignmentDelta, new}
use Rattle.rust_session.specs.Demand.{Answered, refuses, baseline, done, no_change, delta, replay, Shown, Caller, rust_run}

abbrev pub link : ℕ → ControllerIncarnation
link n = record { 0 = n }

-- consumer 7 of topic://a/b/c, on link 1
abbrev pub fresh : Caller
fresh = record { session = new 7 parent [] [] Stream (link 1); taken = [] }

-- an assignment without segments at an epoch below 128: as a push, and as the answer to request 1
abbrev pub pushed : ℕ → Call
pushed epoch = update (0x08 ∷ 0x07 ∷ 0x12 ∷ 0x02 ∷ 0x08 ∷ epoch ∷ []) (link 1) []

abbrev pub responded : ℕ → Call
responded epoch = response (0x08 ∷ 0x01 ∷ 0x22 ∷ 0x02 ∷ 0x08 ∷ epoch ∷ []) (link 1)

-- a push of segment 0, from 0 to 7fff, under that name of 27 bytes
abbrev pub pushed_half : ℕ → Text → Call
pushed_half epoch topic =
    update
    ((0x08 ∷ 0x07 ∷ 0x12 ∷ 0x29 ∷ 0x08 ∷ epoch ∷ 0x12 ∷ 0x25 ∷ 0x08 ∷ 0x00 ∷ 0x10 ∷ 0x00 ∷ 0x18 ∷ 0xff ∷ 0xff ∷ 0x01 ∷ 0x22 ∷ 0x1b ∷ [])
    ++ topic) (link 1) []

-- an error code of 0 with the text "no", alone and with an assignment of epoch 3; the text alone
abbrev pub denied : Call
denied = response (0x08 ∷ 0x01 ∷ 0x10 ∷ 0x00 ∷ 0x1a ∷ 0x02 ∷ 0x6e ∷ 0x6f ∷ []) (link 1)

abbrev pub outranked : Call
outranked = response (0x08 ∷ 0x01 ∷ 0x10 ∷ 0x00 ∷ 0x1a ∷ 0x02 ∷ 0x6e ∷ 0x6f ∷ 0x22 ∷ 0x02 ∷ 0x08 ∷ 0x03 ∷ []) (link 1)

abbrev pub text_only : Call
text_only = response (0x08 ∷ 0x01 ∷ 0x1a ∷ 0x02 ∷ 0x6e ∷ 0x6f ∷ []) (link 1)

-- what is handed out
abbrev pub none-at : ℕ → ConsumerAssignment
none-at epoch = record { layout-epoch = epoch; segments = [] }

abbrev pub half : AssignedSegment
half = record { segment-id = record { 0 = 0 }; key-range = key_range 0 0x7fff; bucket-ranges = []; segment-topic = name }

abbrev pub change : ℕ → List AssignedSegment → AssignmentDelta
change epoch gained = record { layout-epoch = epoch; gained = gained; lost = [] }

abbrev pub tells : List Call → List Answered
tells calls = map (λ (x : Shown). x.answered) (rust_run fresh calls)

abbrev pub floors : List Call → List (Option ℕ)
floors calls = map (λ (x : Shown). x.epoch-floor) (rust_run fresh calls)

abbrev pub flags : List Call → List Bool
flags calls = map (λ (x : Shown). x.invalidated) (rust_run fresh calls)

-- the last of them
abbrev pub last_of : List Answered → Option Answered
last_of [] = None
last_of (x ∷ []) = Some x
last_of (x ∷ (y ∷ l)) = last_of (y ∷ l)

pub record Runs : Type 0 where
  -- rows C, D, E, F: a delta, none, a delta that loses and gains nothing, 27
  pub rows-c-to-f : tells (responded 2 ∷ pushed_half 3 name ∷ pushed_half 3 name ∷ pushed_half 4 name ∷ pushed_half 3 name ∷ [])
      ≡ baseline (none-at 2) ∷ delta (change 3 (half ∷ [])) ∷ no_change ∷ delta (change 4 []) ∷ refuses (StaleEpoch 3 4) [] ∷ []
  -- the name of segment 1 is 13
  pub other_name : tells (pushed_half 3 (take 26 name ++ (0x31 ∷ [])) ∷ []) ≡ refuses (AttachmentMismatch (record { 0 = 0 })) [] ∷ []
  -- pushes are tested against the floor and not against each other; then every response is 27
  pub falling-queue : tells (pushed 5 ∷ pushed 4 ∷ responded 3 ∷ responded 6 ∷ [])
      ≡ no_change ∷ no_change ∷ refuses (StaleEpoch 4 5) [] ∷ refuses (StaleEpoch 5 6) [] ∷ []
  -- the 1,025th push is 28
  pub full-queue : last_of (tells (replicate 1025 (pushed 5))) ≡ Some (refuses (PreBaselineBufferFull 1024) [])
  -- while registered a response below the floor is 26; one at the same epoch is taken
  pub registered-again : tells (responded 5 ∷ responded 4 ∷ responded 5 ∷ [])
      ≡ baseline (none-at 5) ∷ refuses (CrossIncarnationEpochRegression 4 5) [] ∷ baseline (none-at 5) ∷ []
  -- equal pushes are queued, and not handed out
  pub equal-pushes : tells (pushed 5 ∷ pushed 5 ∷ responded 4 ∷ drain 0 [] ∷ drain 0 [] ∷ [])
      ≡ no_change ∷ no_change ∷ baseline (none-at 4) ∷ replay (record { assignment = none-at 5; delta = change 5 [] }) ∷ no_change ∷ []
  -- an update before the drain: the drain still hands out the older delta
  pub update-between : tells (pushed 5 ∷ responded 4 ∷ pushed 6 ∷ drain 0 [] ∷ [])
      ≡ no_change ∷ baseline (none-at 4) ∷ delta (change 6 []) ∷ replay (record { assignment = none-at 5; delta = change 5 [] }) ∷ []
  -- the floor is the last list's epoch before any drain, and outlives begin
  pub floor-kept : floors (pushed 9 ∷ responded 3 ∷ begin (link 2) ∷ []) ≡ None ∷ Some 9 ∷ Some 9 ∷ []
  -- an invalidated session takes a response and stays invalidated, until begin
  pub flag-kept : flags (invalidate ∷ responded 3 ∷ begin (link 2) ∷ []) ≡ true ∷ true ∷ false ∷ []
  -- an incarnation that does not advance is 25
  pub same-link : tells (begin (link 1) ∷ begin (link 2) ∷ []) ≡ refuses (NonAdvancingIncarnation (link 1) (link 1)) [] ∷ done ∷ []
  -- a code of 0 is an error, told with the broker's text; an assignment outranks it; a text alone is 17
  pub denials : tells (denied ∷ outranked ∷ text_only ∷ [])
      ≡ refuses (Broker (pos 0)) (0x6e ∷ 0x6f ∷ []) ∷ baseline (none-at 3) ∷ refuses (Empty 1) [] ∷ []

pub runs : Runs
unfolding table fits sequence_in sequence_of text_after is_utf8 hex4 decimal_within decimal varint_of key_read number_body part_of fields_of value_for
    is_complete first_fault int32_of read_segment read_assignment update_of response_of
runs =
    record {
      rows-c-to-f = refl;
      other_name = refl;
      falling-queue = refl;
      full-queue = refl;
      registered-again = refl;
      equal-pushes = refl;
      update-between = refl;
      floor-kept = refl;
      flag-kept = refl;
      same-link = refl;
      denials = refl;
    }
