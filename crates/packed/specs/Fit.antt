-- Internal: cited by the contracts of helpers alone; whoever reads the claims may skip it.
--
-- The numbers of a packed assignment fit their widths. What is read from bytes does (proofs/RoundLaws).
-- Assumes nothing.
use Rattle.std.specs.Prelude.{◌^◌, ◌<◌, List, [], ◌∷◌, length}
use Rattle.topic_types.specs.declared.KeyRange.{KeyRange}
use Rattle.packed.specs.Assignment.{AssignedSegment, ConsumerAssignment}

pub record FitRange (r : KeyRange) : Type 0 where
  pub start : r.start < 256 ^ 2
  pub end : r.end < 256 ^ 2

abbrev pub FitRanges : List KeyRange → Type 0
FitRanges [] = Unit {0}
FitRanges (r ∷ rs) = FitRange r × FitRanges rs

pub record FitSegment (g : AssignedSegment) : Type 0 where
  pub id : g.segment_id < 256 ^ 8
  pub range : FitRange g.range
  pub count : length g.buckets < 256 ^ 2
  pub buckets : FitRanges g.buckets

abbrev pub FitSegments : List AssignedSegment → Type 0
FitSegments [] = Unit {0}
FitSegments (g ∷ gs) = FitSegment g × FitSegments gs

pub record FitAssignment (a : ConsumerAssignment) : Type 0 where
  pub epoch : a.layout_epoch < 256 ^ 8
  pub count : length a.segments < 256 ^ 2
  pub segments : FitSegments a.segments
