-- Public: what is seen of a run of the transcribed Rust, in the numbers that the program station prints: the answer,
-- the list held, floor, incarnation and flags.
-- Assumes nothing.
use Rattle.std.specs.Prelude.{ℕ, Bool, List, [], ◌∷◌, map, ℤ, option_map, Option}
use Rattle.topic_types.specs.declared.ControllerIncarnation.{ControllerIncarnation}
use Rattle.topic_types.specs.declared.KeyRange.{KeyRange}
use Rattle.topic_types.specs.declared.SegmentId.{SegmentId}
use Rattle.topic_types.specs.declared.ScalableConsumerType.TheVariants.{Stream}
use Rattle.topic_types.specs.KeyRanges.{key_range}
use Rattle.refusal.specs.Refusals.{number_of, values_of}
use Rattle.packed.specs.Assignment as port
use Rattle.session.specs.Trace.{Call}
use Rattle.rust_magnetar.specs.Text.{Text}
use Rattle.rust_magnetar.specs.Assignment.{AssignedSegment, ConsumerAssignment}
use Rattle.rust_magnetar.specs.Session.{AssignmentDelta, new}
use Rattle.rust_session.specs.Demand.{Answered, refuses, baseline, done, no_change, delta, replay, Shown, Caller, rust_run}

-- a list, its names left out
abbrev pub message_segment : AssignedSegment → port.AssignedSegment
message_segment s = record { segment_id = s.segment-id.0; range = s.key-range; buckets = s.bucket-ranges }

abbrev pub list_of : ConsumerAssignment → port.ConsumerAssignment
list_of a = record { layout_epoch = a.layout-epoch; segments = map message_segment a.segments }

pub data Line : Type 0 where
  refused : (number : ℕ) → List ℤ → Text → Line
  accepted : Line
  unchanged : Line
  changed : (epoch : ℕ) → List ℕ → List port.AssignedSegment → Line

abbrev pub change_of : AssignmentDelta → Line
change_of d = changed d.layout-epoch (map (λ (id : SegmentId). id.0) d.lost) (map message_segment d.gained)

abbrev pub line_of : Answered → Line
line_of (refuses x text) = refused (number_of x) (values_of x) text
line_of (baseline a) = accepted
line_of done = accepted
line_of no_change = unchanged
line_of (delta d) = change_of d
line_of (replay r) = change_of r.delta

pub record Seen : Type 0 where
  pub line : Line
  pub held : Option port.ConsumerAssignment
  pub floor : Option ℕ
  pub link : ℕ
  pub registered : Bool
  pub invalidated : Bool

abbrev pub seen_of : Shown → Seen
seen_of x =
    record {
      line = line_of x.answered;
      held = option_map list_of x.assignment;
      floor = x.epoch-floor;
      link = x.incarnation.0;
      registered = x.registered;
      invalidated = x.invalidated;
    }

-- consumer 7 on link 1, below that topic
abbrev pub opened : Text → Caller
opened topic = record { session = new 7 topic (0x73 ∷ []) (0x6e ∷ []) Stream (record { 0 = 1 }); taken = [] }

abbrev pub run_of : Text → List Call → List Seen
run_of topic calls = map seen_of (rust_run (opened topic) calls)

-- ---- short words for the sessions

abbrev pub seen : Line → Option port.ConsumerAssignment → Option ℕ → ℕ → Bool → Bool → Seen
seen line held floor link registered invalidated =
    record { line = line; held = held; floor = floor; link = link; registered = registered; invalidated = invalidated }

abbrev pub list : ℕ → List port.AssignedSegment → port.ConsumerAssignment
list epoch segments = record { layout_epoch = epoch; segments = segments }

abbrev pub segment : ℕ → ℕ → ℕ → List KeyRange → port.AssignedSegment
segment id start end buckets = record { segment_id = id; range = key_range start end; buckets = buckets }

abbrev pub on : ℕ → ControllerIncarnation
on n = record { 0 = n }
