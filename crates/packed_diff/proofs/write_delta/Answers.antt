-- `difference::write_delta` meets its contract: WholeLaws puts the five writes together.
-- Assumes nothing.
use Prim.Native.Nat.{◌≤◌}
use native.Mathlib.Omega.{arith}
use lib.ListN.{length}
use Rattle.slice_int.specs.Be.{be_at}
use Rattle.packed.specs.Assignment.{num, decode_assignment}
use Rattle.packed_diff.proofs.TurnLaws.{starts-long}
use Rattle.packed_diff.proofs.WholeLaws.{lost-room, gained-room, few-merged, whole}
use Rattle.packed_diff.proofs.write_delta.Goals as goal
use Rattle.packed_diff.proofs.write_delta.Goals.{After-slice_known-1, After-merge-gained}

-- both assignments have an epoch
epochs : (c : After-slice_known-1) → (8 ≤ length c.args.old.now) × (8 ≤ length c.args.new.now)
epochs c = (
  omega (arith, starts-long c.args.old.now c.requires.value),
  omega (arith, starts-long c.args.new.now c.requires.value_2),
)

-- both counts fit two bytes
counts : (c : After-merge-gained) → (c.merge-lost.result.count ≤ 145) × (c.merge-gained.result.count ≤ 145)
counts c =
    let a = c.args in (
      few-merged a.old.now a.new.now c.requires.value c.merge-lost.ensures,
      few-merged a.new.now a.old.now c.requires.value_2 c.merge-gained.ensures,
    )

pub read_u64-epoch-requires : goal.read_u64-epoch-requires
read_u64-epoch-requires c = omega (arith, epochs (goal.at.read_u64-epoch-requires c).After-slice_known-1)

pub merge-lost-requires : goal.merge-lost-requires
merge-lost-requires c =
    record { x_value = c.requires.value; y_value = c.requires.value_2; x_in_bounds = omega (arith, lost-room c.args.old.now c.requires.value, c.requires.longest_delta_in_bounds) }

pub merge-gained-requires : goal.merge-gained-requires
merge-gained-requires c =
    let m = c.merge-lost in
    let a = c.args in
    let r = gained-room a.old.now a.new.now c.requires.value a.out.now m.result m.new.out c.requires.value_2
    c.requires.longest_delta_in_bounds m.auto.out m.ensures in
    record { x_value = c.requires.value_2; y_value = c.requires.value; x_in_bounds = r }

pub overflow_cast-gained : goal.overflow_cast-gained
overflow_cast-gained c = omega (arith, counts (goal.at.overflow_cast-gained c).After-merge-gained)

pub overflow_cast-lost : goal.overflow_cast-lost
overflow_cast-lost c = omega (arith, counts (goal.at.overflow_cast-lost c).After-merge-gained)

pub write_u64-requires : goal.write_u64-requires
write_u64-requires c =
    omega (
      arith,
      c.write_u16-2.auto.out,
      c.write_u16.auto.out,
      c.merge-gained.auto.out,
      c.merge-lost.auto.out,
      c.requires.longest_delta_in_bounds,
    )

pub returns : goal.returns
unfolding decode_assignment num be_at
returns c =
    whole c.args.old.now c.args.new.now c.args.out.now c.read_u64-epoch.result c.merge-lost.result c.merge-gained.result
    c.merge-lost.new.out c.merge-gained.new.out c.write_u16.new.out c.write_u16-2.new.out c.write_u64.new.out
    c.requires.value c.requires.value_2 c.requires.longest_delta_in_bounds c.read_u64-epoch.ensures c.merge-lost.ensures c.merge-gained.ensures c.write_u16.ensures
    c.write_u16-2.ensures c.write_u64.ensures
