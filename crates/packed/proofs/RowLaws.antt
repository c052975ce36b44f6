-- One segment with 506 buckets is valid: row H, by the law of buckets that rise.
-- Assumes nothing.
use mathlib.Core.Path.{◌≡◌, refl, ap}
use mathlib.Core.Bool.{Bool, true, ◌&&◌}
use Rattle.ranges.specs.Overlap.{rising_from}
use Rattle.packed.specs.Assignment.{size_segment, size_segments, size_assignment, ok_segment, ok_from, ok_assignment}
use Rattle.packed.specs.Rows.{points, bucketed}
use Rattle.packed.proofs.AssignmentLaws.{rising-ok}

points-rise : rising_from 0 (points 506 0) ≡ true
unfolding rising_from
points-rise = refl

pub most-buckets-ok : ok_assignment (bucketed 506) ≡ true
unfolding ok_assignment ok_from ok_segment size_assignment size_segments size_segment
most-buckets-ok = ap (λ (t : Bool). t && true) (rising-ok 0 (points 506 0) points-rise)
