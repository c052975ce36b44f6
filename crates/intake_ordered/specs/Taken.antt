-- Internal: cited by the contracts of helpers alone; whoever reads the claims may skip it.
--
-- What one walk over an assignment in its usual form tells.
--
-- The answer has one direction: what is told is so, and an assignment of which nothing is told may be valid all the same.
-- Assumes nothing.
use Rattle.std.specs.Prelude.{ℕ, ◌≡◌, List, Option, Some, None}
use Rattle.slice_int.specs.Put.{put}
use Rattle.wire.specs.Fields.{fields_of}
use Rattle.wire_schema.specs.declared.MessageKind.TheVariants.{ScalableConsumerAssignment}
use Rattle.wire_schema.specs.FirstFault.{Sound}
use Rattle.wire_readers.specs.Messages.{read_assignment}
use Rattle.packed.specs.Assignment.{ConsumerAssignment, encode_assignment, size_assignment}
use Rattle.intake_content.specs.Content.{content_of, taken}

-- the assignment s has no fault, wherever it is nested; below the parent nothing refuses it; and the buffer holds it packed, in n bytes
pub record OrderedTaken (parent s b : List ℕ) (epoch n : ℕ) (b' : List ℕ) : Type 0 where
  pub valid : (d : ℕ) → Sound d ScalableConsumerAssignment s
  pub epoch-is : epoch ≡ (read_assignment (fields_of s)).layout_epoch
  pub assignment : ConsumerAssignment
  pub content : content_of parent (read_assignment (fields_of s)) ≡ taken assignment
  pub size : n ≡ size_assignment assignment
  pub packed : b' ≡ put b 0 (encode_assignment assignment)

abbrev pub OrderedIs : (parent s b : List ℕ) → Option (ℕ × ℕ) → (b' : List ℕ) → Type 0
OrderedIs parent s b (Some (epoch, n)) b' = OrderedTaken parent s b epoch n b'
OrderedIs parent s b None b' = Unit {0}
