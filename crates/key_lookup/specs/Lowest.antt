-- Public: what `segment_for_key` answers, in 02's words, of any list of segments, whatever their order.
-- proofs/LowestLaws: it holds of every key that is not too long and every packed assignment.
-- Assumes nothing.
use Rattle.std.specs.Prelude.{ℕ, ◌≤◌, ◌≡◌, true, false, Option, Some, None, Result, Ok, Err}
use mathlib.Core.List.{List, Memᴰ}
use Rattle.packed.specs.Assignment.{AssignedSegment}
use Rattle.key_lookup.specs.Lookup.{takes}
use Rattle.refusal.specs.declared.Refusal.{Refusal}
use Rattle.topic_types.specs.declared.SegmentId.{SegmentId}

-- "the lowest id": some segment with the id takes the hash, and none with a lower id does
pub record LowestId (hash : ℕ) (gs : List AssignedSegment) (id : ℕ) : Type 0 where
  pub segment : AssignedSegment
  pub member : Memᴰ segment gs
  pub taken : takes hash segment ≡ true
  pub id-is : segment.segment_id ≡ id
  pub least : (g : AssignedSegment) → Memᴰ g gs → takes hash g ≡ true → id ≤ g.segment_id

-- "or none if no segment does"
abbrev pub Lowest : ℕ → List AssignedSegment → Result (Option SegmentId) Refusal → Type 0
Lowest hash gs (Ok (Some id)) = LowestId hash gs id.0
Lowest hash gs (Ok None) = (g : AssignedSegment) → Memᴰ g gs → takes hash g ≡ false
Lowest hash gs (Err x) = ⊥
