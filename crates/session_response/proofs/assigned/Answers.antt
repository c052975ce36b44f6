-- `session_response::assigned` meets its contract: 26, then 27, or else the session is registered.
-- Assumes nothing.
use mathlib.Core.Path.{sym, ◌∙◌}
use Rattle.packed.specs.Assignment.{decode_assignment}
use Rattle.session_response.proofs.ReplayLaws.{buffer-epoch, replayed-reads, last_begins}
use Rattle.session_response.proofs.CallLaws.{refused-out, given_out, Decided}
use Rattle.session_response.proofs.CallLaws.{assignment-below, queue-decides, assignment-stale, assignment-on}
use Rattle.session_response.proofs.assigned.Goals as goal

pub returns-then-below_floor : goal.returns-then-below_floor
returns-then-below_floor c =
    refused-out c.args.r c.args.store.now c.refuse.result _ _ c.refuse.ensures
    (assignment-below c.args.r c.args.store.now (decode_assignment c.args.b.now) c.read_u64-epoch.result
    (buffer-epoch c.args.b.now c.read_u64-epoch.result c.read_u64-epoch.ensures) c.below_floor.result c.below_floor.ensures
    c.if-below_floor.true c.floor_value-value.result c.floor_value-value.ensures)

pub first_stale-requires : goal.first_stale-requires
first_stale-requires c =
    (c.requires.min_store_in_bounds.0, replayed-reads c.args.r c.args.store.now c.replay_count-count.result c.replay_count-count.ensures c.requires.min_store_in_bounds.1)

pub register-requires : goal.register-requires
register-requires c =
    record { min_store_in_bounds = c.requires.min_store_in_bounds; scratch = c.requires.scratch; count_value = c.replay_count-count.ensures; last_begins = last_begins c.args.store.now _ _ _ (sym c.in-Ok.is ∙ c.first_stale.ensures) }

pub returns-in-Err : goal.returns-in-Err
returns-in-Err c =
    refused-out c.args.r c.args.store.now c.refuse-in-Err.result _ _ c.refuse-in-Err.ensures
    (assignment-stale c.args.r c.args.store.now (decode_assignment c.args.b.now) c.first_stale.result (let it : (Decided c.args.r c.args.store.now (decode_assignment c.args.b.now) c.first_stale.result) = queue-decides c.args.r c.args.store.now (decode_assignment c.args.b.now) c.read_u64-epoch.result
    (buffer-epoch c.args.b.now c.read_u64-epoch.result c.read_u64-epoch.ensures)
    c.below_floor.result c.below_floor.ensures c.if-below_floor.false c.replay_count-count.result c.replay_count-count.ensures
    c.first_stale.result c.first_stale.ensures in it)
    c.in-Err.got c.in-Err.prev c.in-Err.is)

pub returns-in-Ok : goal.returns-in-Ok
returns-in-Ok c =
    given_out c.args.r c.args.store.now c.register.result c.register.new.store _ _
    (assignment-on c.args.r c.args.store.now (decode_assignment c.args.b.now) c.first_stale.result (let it : (Decided c.args.r c.args.store.now (decode_assignment c.args.b.now) c.first_stale.result) = queue-decides c.args.r c.args.store.now (decode_assignment c.args.b.now) c.read_u64-epoch.result
    (buffer-epoch c.args.b.now c.read_u64-epoch.result c.read_u64-epoch.ensures)
    c.below_floor.result c.below_floor.ensures c.if-below_floor.false c.replay_count-count.result c.replay_count-count.ensures
    c.first_stale.result c.first_stale.ensures in it)
    _ c.in-Ok.is)
    c.register.ensures
