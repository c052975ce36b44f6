-- `session_update::enqueued` meets its contract: 26, then 28, or else the assignment stands behind the queue.
-- Assumes nothing.
use Prim.Native.Nat.{◌+◌, ◌≤◌}
use native.Mathlib.Omega.{arith}
use lib.ListN.{length}
use Rattle.packed.specs.Assignment.{decode_assignment}
use Rattle.session_store.proofs.StoreLaws.{scratch-fits}
use Rattle.session_update.proofs.UpdateLaws.{told, buffer-epoch, epoch-low, queue-full, no_room, queue-joined}
use Rattle.session_update.proofs.enqueued.Goals as goal

pub returns-then-below_floor : goal.returns-then-below_floor
returns-then-below_floor c =
    λ out.
    told c.args.store.now out c.refuse.ensures
    (epoch-low c.args.r c.args.store.now out (decode_assignment c.args.b.now) c.read_u64-epoch.result (buffer-epoch c.args.b.now c.read_u64-epoch.result c.read_u64-epoch.ensures)
    c.below_floor.result c.below_floor.ensures c.if-below_floor.true c.floor_value-value.result c.floor_value-value.ensures)

pub returns-then-count-eq-MAX_QUEUE : goal.returns-then-count-eq-MAX_QUEUE
returns-then-count-eq-MAX_QUEUE c =
    λ out.
    told c.args.store.now out c.refuse-then-count-eq-MAX_QUEUE.ensures
    (queue-full c.args.r c.args.store.now out (decode_assignment c.args.b.now) c.read_u64-epoch.result (buffer-epoch c.args.b.now c.read_u64-epoch.result c.read_u64-epoch.ensures)
    c.below_floor.result c.below_floor.ensures c.if-below_floor.false c.if-count-eq-MAX_QUEUE.true)

pub overflow_sub-store : goal.overflow_sub-store
overflow_sub-store c = c.requires.queue_ends.inside

pub overflow_add-n : goal.overflow_add-n
overflow_add-n c = record { fits = omega (arith, scratch-fits _ _ c.requires.scratch) }

pub returns-then-store-end : goal.returns-then-store-end
returns-then-store-end c =
    λ out.
    told c.args.store.now out c.refuse-then-store-end.ensures
    (no_room c.args.r c.args.store.now out (decode_assignment c.args.b.now) c.read_u64-epoch.result (buffer-epoch c.args.b.now c.read_u64-epoch.result c.read_u64-epoch.ensures)
    c.below_floor.result c.below_floor.ensures c.if-below_floor.false c.if-count-eq-MAX_QUEUE.false c.args.end c.requires.queue_ends.at
    c.args.n c.requires.scratch.size c.requires.queue_ends.inside c.if-store-end.true)

pub push-requires : goal.push-requires
push-requires c = record { n_in_bounds = (let it : (c.args.end + (2 + c.args.n) ≤ length c.args.store.now) = omega (arith, c.requires.queue_ends.inside, c.if-store-end.false) in it); scratch = c.requires.scratch }

pub overflow_add-count : goal.overflow_add-count
overflow_add-count c =
    record { fits = omega (arith, c.requires.queue_count_bound) }

pub returns : goal.returns
returns c =
    λ out.
    told c.push.new.store out c.unchanged.ensures
    (queue-joined c.args.r c.args.store.now out (decode_assignment c.args.b.now) c.read_u64-epoch.result (buffer-epoch c.args.b.now c.read_u64-epoch.result c.read_u64-epoch.ensures)
    c.below_floor.result c.below_floor.ensures c.if-below_floor.false c.if-count-eq-MAX_QUEUE.false c.args.end c.requires.queue_ends.at
    c.args.n c.requires.scratch.size (let it : (c.args.end + (2 + c.args.n) ≤ length c.args.store.now) = omega (arith, c.requires.queue_ends.inside, c.if-store-end.false) in it)
    c.push.new.store c.push.ensures c.with_queue_count-next.result c.with_queue_count-next.ensures)
