-- `segment_key::key_among` meets its contract. The invariant is `Turn` of packed_records/proofs/WalkLaws, by how many
-- records are left. Assumes nothing.
use Prim.Native.Nat.{◌+◌, ◌-◌}
use native.Mathlib.Omega.{arith}
use mathlib.Core.List.{List}
use mathlib.Core.Path.{◌≡◌, refl, sym, ap, ◌∙◌, subst}
use Rattle.keyed.specs.Keyed.{find}
use Rattle.packed.specs.Assignment.{AssignedSegment, id_of}
use Rattle.packed_records.proofs.WalkLaws.{Turn, turn-start, turn_end, turn-head, turn-valid, turn_inside, turn-found, turn-next}
use Rattle.key_in_segment.specs.SegmentKey.{key_at, key_in}
use Rattle.key_in_segment.proofs.WalkLaws.{key-found, key-further, key-none}
use Rattle.key_in_segment.proofs.key_among.Goals as goal

pub loop-init : goal.loop-init
loop-init c =
    let f = λ (gs : List AssignedSegment). key_in (find id_of c.args.id gs) in
    let e : c.args.m ≡ c.args.m - 0 = omega arith in
    subst (Turn f c.args.s.now c.args.m 10) e (turn-start f c.args.s.now c.args.m c.requires)

pub id_at-requires : goal.id_at-requires
id_at-requires c = omega (arith, turn-head c.loop.invariant (omega arith))

pub least_at-requires : goal.least_at-requires
least_at-requires c =
    record { s_in_bounds = turn_inside c.loop.invariant (omega arith) _ refl; s_value = turn-valid c.loop.invariant (omega arith) }

pub returns-then-id-id_at : goal.returns-then-id-id_at
returns-then-id-id_at c =
    c.key_at.ensures
    ∙ ap key_at c.least_at.ensures
    ∙ turn-found c.loop.invariant (omega arith) (λ gs. key-found c.args.id _ gs (c.if-id-id_at.true ∙ c.id_at.ensures))

pub size_at-p-requires : goal.size_at-p-requires
size_at-p-requires c = turn-head c.loop.invariant (omega arith)

pub overflow_add-p : goal.overflow_add-p
overflow_add-p c =
    omega (arith, c.well_formed, turn_inside c.loop.invariant (omega arith) c.size_at-p.result c.size_at-p.ensures)

pub loop-preserved : goal.loop-preserved
loop-preserved c =
    let f = λ (gs : List AssignedSegment). key_in (find id_of c.args.id gs) in
    let e : c.args.m - c.loop.counter - 1 ≡ c.args.m - (c.loop.counter + 1) = omega arith in
    subst (Turn f c.args.s.now c.args.m (c.loop.p + c.size_at-p.result)) e
    (turn-next c.loop.invariant (omega arith) c.size_at-p.result c.size_at-p.ensures
    (λ gs. key-further c.args.id _ gs (λ q. c.if-id-id_at.false (q ∙ sym c.id_at.ensures))))

pub returns : goal.returns
returns c = key-none c.args.id ∙ turn_end c.loop.invariant (omega arith)
