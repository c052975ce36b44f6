-- `segment_key::key_among` meets its contract. The invariant is `Turn` of packed_records/proofs/WalkLaws, by how many
-- records are left. Assumes nothing.
use Prim.Native.Nat.{◌-◌}
use mathlib.Core.List.{List}
use Rattle.keyed.specs.Keyed.{find}
use Rattle.packed.specs.Assignment.{AssignedSegment, id_of}
use Rattle.packed_records.proofs.WalkLaws.{Turn}
use Rattle.key_in_segment.specs.SegmentKey.{key_in}
use Rattle.key_in_segment.proofs.key_among.Given as goal

abbrev pub invariant-loop : goal.invariant-loop
invariant-loop l = Turn (λ (gs : List AssignedSegment). key_in (find id_of l.id gs)) l.s l.m l.p (l.m - l.counter)
