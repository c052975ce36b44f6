-- `session_update::held` meets its contract: no change, 27, or the assignment is held.
-- Assumes nothing.
use native.Mathlib.Omega.{arith}
use Rattle.packed.specs.Assignment.{decode_assignment}
use Rattle.session_update.proofs.UpdateLaws.{buffer-epoch, list-epoch, list-there, list-starts}
use Rattle.session_update.proofs.UpdateLaws.{told, list_same, epoch-stale, list_held}
use Rattle.session_update.proofs.held.Goals as goal

pub same_assignment-requires : goal.same_assignment-requires
same_assignment-requires c =
    record { x_value = list-starts c.args.store.now c.requires.store_value; y_value = c.requires.scratch.starts }

pub returns-then-same_assignment : goal.returns-then-same_assignment
returns-then-same_assignment c =
    told c.args.store.now c.args.out.now c.unchanged.ensures
    (list_same c.args.r c.args.store.now c.args.out.now (decode_assignment c.args.b.now)
    _ (list-there c.args.store.now) c.same_assignment.result c.same_assignment.ensures c.if-same_assignment.true)

pub returns-then-epoch-prev : goal.returns-then-epoch-prev
returns-then-epoch-prev c =
    told c.args.store.now c.args.out.now c.refuse.ensures
    (epoch-stale c.args.r c.args.store.now c.args.out.now (decode_assignment c.args.b.now)
    _ (list-there c.args.store.now) c.same_assignment.result c.same_assignment.ensures c.if-same_assignment.false
    c.read_u64-epoch.result c.read_u64-prev.result (buffer-epoch c.args.b.now c.read_u64-epoch.result c.read_u64-epoch.ensures) (list-epoch c.args.store.now c.read_u64-prev.result c.read_u64-prev.ensures) c.if-epoch-prev.true)

pub write_delta-len-requires : goal.write_delta-len-requires
write_delta-len-requires c =
    record { value = list-starts c.args.store.now c.requires.store_value; value_2 = c.requires.scratch.starts; longest_delta_in_bounds = c.requires.min_store_in_bounds.1 }

pub write_slot-requires : goal.write_slot-requires
write_slot-requires c =
    record { slot_size_in_bounds = omega (arith, c.requires.min_store_in_bounds.0); scratch = c.requires.scratch }

pub returns : goal.returns
returns c =
    list_held c.args.r c.args.store.now c.args.out.now (decode_assignment c.args.b.now)
    _ (list-there c.args.store.now) c.same_assignment.result c.same_assignment.ensures c.if-same_assignment.false
    c.read_u64-epoch.result c.read_u64-prev.result (buffer-epoch c.args.b.now c.read_u64-epoch.result c.read_u64-epoch.ensures) (list-epoch c.args.store.now c.read_u64-prev.result c.read_u64-prev.ensures) c.if-epoch-prev.false
    _ c.write_delta-len.ensures.0 _ c.write_delta-len.ensures.1 _ c.write_slot.ensures
    _ c.raised-raised.ensures _ c.with_floor-next.ensures
