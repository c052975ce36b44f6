-- Public: equality of packed assignments, field by field, "bucket order included" (01, Wrong turns). proofs/EqualLaws
-- says that it is equality of values, and equality of the bytes that stand for them.
-- Assumes nothing.
use Rattle.std.specs.Prelude.{Bool, true, false, ◌&&◌, List, [], ◌∷◌, eqb}
use Rattle.topic_types.specs.declared.KeyRange.{KeyRange}
use Rattle.packed.specs.Assignment.{AssignedSegment, ConsumerAssignment}

abbrev pub same_range : KeyRange → KeyRange → Bool
same_range q r = eqb q.start r.start && eqb q.end r.end

unfoldable pub same_ranges : List KeyRange → List KeyRange → Bool
same_ranges [] [] = true
same_ranges [] (r ∷ rs) = false
same_ranges (q ∷ qs) [] = false
same_ranges (q ∷ qs) (r ∷ rs) = same_range q r && same_ranges qs rs

unfoldable pub same_segment : (g h : AssignedSegment) → Bool
same_segment g h = eqb g.segment_id h.segment_id && (same_range g.range h.range && same_ranges g.buckets h.buckets)

unfoldable pub same_segments : List AssignedSegment → List AssignedSegment → Bool
same_segments [] [] = true
same_segments [] (h ∷ hs) = false
same_segments (g ∷ gs) [] = false
same_segments (g ∷ gs) (h ∷ hs) = same_segment g h && same_segments gs hs

unfoldable pub same_assignment : (a b : ConsumerAssignment) → Bool
same_assignment a b = eqb a.layout_epoch b.layout_epoch && same_segments a.segments b.segments
