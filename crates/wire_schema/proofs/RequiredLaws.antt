-- Laws of required fields: what each message needs, as one conjunction.
--
-- In order: a range, a segment, an assignment (`range-is`, `segment-is`, `assignment-is`); the two messages that hold an assignment (`update-is`,
-- `response-is`); the watch's message (`watch-is`), whose events need nothing (`event-needs-none`).
-- Assumes nothing.
use Prim.Native.Nat.{ℕ, suc}
use mathlib.Core.Path.{◌≡◌, refl, ap}
use mathlib.Core.Bool.{Bool, true, false, cond, not, ◌&&◌, ◌||◌, and-true}
use mathlib.Core.List.{List, [], ◌∷◌}
use lib.Dec.{eqb}
use Rattle.wire.specs.Fields.{Field}
use Rattle.wire_values.specs.Values.{numbers_of, parts_of, present, merged_fields, Member, absent, holds, member_of}
use Rattle.wire_schema.specs.declared.MessageKind.{MessageKind}
use Rattle.wire_schema.specs.declared.MessageKind.TheVariants.{CommandScalableTopicAssignmentUpdate, CommandScalableTopicSubscribeResponse}
use Rattle.wire_schema.specs.declared.MessageKind.TheVariants.{ScalableConsumerAssignment, ScalableAssignedSegment, IntRange}
use Rattle.wire_schema.specs.declared.MessageKind.TheVariants.{CommandWatchScalableTopicsUpdate, ScalableTopicsSnapshot, ScalableTopicsDiff}
use Rattle.wire_schema.specs.declared.ValueKind.TheVariants.{Message}
use Rattle.wire_schema.specs.Required.{all_complete, member_complete, complete_within, is_complete}

module _ (d : ℕ) (fs : List Field) where
  pub range-is : complete_within (suc d) IntRange fs ≡ (present (numbers_of 1 fs) && present (numbers_of 2 fs))
  range-is = ap (λ (b : Bool). present (numbers_of 1 fs) && b) (and-true (present (numbers_of 2 fs)))

  abbrev ranges : Bool
  ranges = all_complete (complete_within d) IntRange (parts_of 5 fs)

  pub segment-is : complete_within (suc d) ScalableAssignedSegment fs
      ≡ (present (numbers_of 1 fs)
      && (present (numbers_of 2 fs)
      && (present (numbers_of 3 fs) && (present (parts_of 4 fs) && all_complete (complete_within d) IntRange (parts_of 5 fs)))))
  segment-is =
      ap (λ (b : Bool). present (numbers_of 1 fs) && (present (numbers_of 2 fs) && (present (numbers_of 3 fs) && (present (parts_of 4 fs) && b))))
      (and-true ranges)

  pub assignment-is : complete_within (suc d) ScalableConsumerAssignment fs
      ≡ (present (numbers_of 1 fs) && all_complete (complete_within d) ScalableAssignedSegment (parts_of 2 fs))
  assignment-is =
      ap (λ (b : Bool). present (numbers_of 1 fs) && b) (and-true (all_complete (complete_within d) ScalableAssignedSegment (parts_of 2 fs)))

-- ---- the messages that hold an assignment

module _ (fs : List Field) where
  pub update-is : is_complete CommandScalableTopicAssignmentUpdate fs
      ≡ (present (numbers_of 1 fs) && (is_complete ScalableConsumerAssignment (merged_fields 2 fs) && present (parts_of 2 fs)))
  unfolding is_complete
  update-is =
      ap (λ (b : Bool). present (numbers_of 1 fs) && b)
      (and-true (complete_within 3 ScalableConsumerAssignment (merged_fields 2 fs) && present (parts_of 2 fs)))

  pub response-is : is_complete CommandScalableTopicSubscribeResponse fs
      ≡ (present (numbers_of 1 fs) && (is_complete ScalableConsumerAssignment (merged_fields 4 fs) || not (present (parts_of 4 fs))))
  unfolding is_complete
  response-is =
      ap (λ (b : Bool). present (numbers_of 1 fs) && b)
      (and-true (complete_within 3 ScalableConsumerAssignment (merged_fields 4 fs) || not (present (parts_of 4 fs))))

-- ---- the watch's message

either_way : (b : Bool) → cond b true true ≡ true
either_way true = refl
either_way false = refl

-- an event, whichever it is, needs nothing: a snapshot and a diff have no required field
event-needs-none : (k : MessageKind) → ((fs : List Field) → complete_within 1 k fs ≡ true) → (f : ℕ) (m : Member)
    → member_complete (complete_within 1) (Message k) f m ≡ true
event-needs-none k e f absent = refl
event-needs-none k e f (holds n fs) = rw (e fs) (either_way (eqb n f))

pub watch-is : (fs : List Field) → is_complete CommandWatchScalableTopicsUpdate fs ≡ present (numbers_of 1 fs)
unfolding is_complete
watch-is fs =
    let m = member_of (2 ∷ 3 ∷ []) fs in
    rw (event-needs-none ScalableTopicsSnapshot (λ gs. refl) 2 m, event-needs-none ScalableTopicsDiff (λ gs. refl) 3 m)
    (and-true (present (numbers_of 1 fs)))
