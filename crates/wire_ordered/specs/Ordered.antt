-- Internal: cited by the contracts of helpers alone; whoever reads the claims may skip it.
--
-- What the walk tells of a message in its usual form.
--
-- Every answer has one direction: what is told is so, and what is not told may be so all the same.
-- Assumes nothing.
use Rattle.std.specs.Prelude.{ℕ, suc, ◌-◌, ◌≤◌, ◌<◌, ◌≡◌, List, [], ◌∷◌, length, take, drop, Option, Some, None}
use Rattle.wire.specs.declared.WireType.TheVariants as wire
use Rattle.wire.specs.Fields.{number, bytes, field, fields_of}
use Rattle.wire_values.specs.Values.{parts_of}
use Rattle.wire_schema.specs.declared.MessageKind.{MessageKind}
use Rattle.wire_schema.specs.declared.MessageKind.TheVariants.{ScalableConsumerAssignment}
use Rattle.wire_schema.specs.Required.{all_complete, complete_within}
use Rattle.wire_schema.specs.FirstFault.{check_fields, fault_within, Sound}

-- field f, a number, stands in s from a place to another
pub record NumberField (f : ℕ) (s : List ℕ) (at to : ℕ) : Type 0 where
  pub moved : at < to
  pub within : to ≤ length s
  pub value : ℕ
  pub fields : fields_of (drop at s) ≡ field f wire.Varint (number value) ∷ fields_of (drop to s)

-- field f stands in s from a place to another, and holds the number v
pub record NumberIs (f : ℕ) (s : List ℕ) (at v to : ℕ) : Type 0 where
  pub moved : at < to
  pub within : to ≤ length s
  pub fields : fields_of (drop at s) ≡ field f wire.Varint (number v) ∷ fields_of (drop to s)

abbrev pub NumberAtIs : (f : ℕ) (s : List ℕ) (at : ℕ) → Option (ℕ × ℕ) → Type 0
NumberAtIs f s at (Some (v, to)) = NumberIs f s at v to
NumberAtIs f s at None = Unit {0}

-- field f stands in s from a place to another, and holds the part that starts at `from`
pub record PartField (f : ℕ) (s : List ℕ) (at from to : ℕ) : Type 0 where
  pub moved : at < to
  pub ordered : from ≤ to
  pub within : to ≤ length s
  pub fields : fields_of (drop at s) ≡ field f wire.Len (bytes (take (to - from) (drop from s))) ∷ fields_of (drop to s)

abbrev pub PartIs : (f : ℕ) (s : List ℕ) (at : ℕ) → Option (ℕ × ℕ) → Type 0
PartIs f s at (Some (from, to)) = PartField f s at from to
PartIs f s at None = Unit {0}

-- the fields of a message of kind k up to a place have no fault, however deep messages may be nested: those behind it decide. Of required fields none is
-- missing but in messages of kind j, which field f holds behind the place
pub record Passed (k j : MessageKind) (f : ℕ) (s : List ℕ) (at : ℕ) : Type 0 where
  pub within : at ≤ length s
  pub read : (d : ℕ) → check_fields (fault_within d) k (fields_of s) ≡ check_fields (fault_within d) k (fields_of (drop at s))
  pub whole : (d : ℕ) → complete_within (suc d) k (fields_of s) ≡ all_complete (complete_within d) j (parts_of f (fields_of (drop at s)))

-- a number in field 1, an assignment without fault in field n, and nothing else
pub record Carrier (n : ℕ) (s : List ℕ) : Type 0 where
  pub head : ℕ
  pub part : List ℕ
  pub fields : fields_of s ≡ field 1 wire.Varint (number head) ∷ field n wire.Len (bytes part) ∷ []
  pub sound : (d : ℕ) → Sound d ScalableConsumerAssignment part
