-- Public: what `key_in_segment` answers, in 02's words. proofs/AnsweredLaws: it holds of every packed assignment and
-- every id (`answer-is`). A key and none exclude each other: a value that a segment with buckets takes lies in its
-- range and in a bucket.
-- Assumes nothing.
use Rattle.std.specs.Prelude.{ℕ, ◌/◌, ◌^◌, ◌≡◌, false, List, [], Some, Option, None, Result, Ok, Err}
use Rattle.ranges.specs.Overlap.{overlaps_any}
use Rattle.keyed.specs.Keyed.{find}
use Rattle.packed.specs.Assignment.{AssignedSegment, id_of}
use Rattle.key_murmur3.specs.Murmur3.{murmur3}
use Rattle.key_lookup.specs.Lookup.{key_hash, takes}
use Rattle.key_for_hash.specs.declared.TestKey.{TestKey}
use Rattle.key_for_hash.specs.Inverse.{key_bytes}
use Rattle.key_in_segment.specs.Least.{LeastValue}
use Rattle.refusal.specs.declared.Refusal.{Refusal}

-- the key falls in the segment with the id: "with upper hash bits 0 and the smallest such hash"
pub record FallsIn (gs : List AssignedSegment) (id : ℕ) (k : TestKey) : Type 0 where
  pub segment : AssignedSegment
  pub found : find id_of id gs ≡ Some segment
  pub upper : murmur3 (key_bytes k) / 2 ^ 16 ≡ 0
  pub smallest : LeastValue (λ v. takes v segment) (key_hash (key_bytes k))

-- "the segment has buckets and none meets its range"
pub record NoneFalls (g : AssignedSegment) : Type 0 where
  pub bucketed : g.buckets ≡ [] → ⊥
  pub apart : overlaps_any g.range g.buckets ≡ false

-- "None is answered if the id is not in the sheet, or if ..": whatever segment has the id, no key falls in it
abbrev pub Answered : List AssignedSegment → ℕ → Result (Option TestKey) Refusal → Type 0
Answered gs id (Ok (Some k)) = FallsIn gs id k
Answered gs id (Ok None) = (g : AssignedSegment) → find id_of id gs ≡ Some g → NoneFalls g
Answered gs id (Err x) = ⊥
