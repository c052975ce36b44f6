-- `lookup::first_taking` meets its contract. The invariant is `Turn` of packed_records/proofs/WalkLaws, by how many records
-- are left. Assumes nothing.
use Prim.Native.Nat.{◌-◌}
use Rattle.packed_records.proofs.WalkLaws.{Turn}
use Rattle.key_lookup.specs.Lookup.{first_taking}
use Rattle.key_lookup.proofs.first_taking.Given as goal

abbrev pub invariant-loop : goal.invariant-loop
invariant-loop l = Turn (first_taking l.hash) l.s l.m l.p (l.m - l.counter)
