-- `lookup::first_taking` meets its contract. The invariant is `Turn` of packed_records/proofs/WalkLaws, by how many records
-- are left. Assumes nothing.
use Rattle.std.specs.Prelude.{Some, Ok}
use Prim.Native.Nat.{◌+◌, ◌-◌}
use native.Mathlib.Omega.{arith}
use mathlib.Core.Path.{◌≡◌, refl, sym, ap, ◌∙◌, subst}
use Rattle.packed_records.proofs.WalkLaws.{Turn, turn-start, turn_end, turn-head, turn_inside, turn-found, turn-next}
use Rattle.key_lookup.specs.Lookup.{first_taking}
use Rattle.key_lookup.proofs.TakesLaws.{first_found, first-further, first-none}
use Rattle.key_lookup.proofs.first_taking.Goals as goal

pub loop-init : goal.loop-init
loop-init c =
    let e : c.args.m ≡ c.args.m - 0 = omega arith in
    subst (Turn (first_taking c.args.hash) c.args.s.now c.args.m 10) e (turn-start (first_taking c.args.hash) c.args.s.now c.args.m c.requires)

pub segment_takes-requires : goal.segment_takes-requires
segment_takes-requires c = turn_inside c.loop.invariant (omega arith) _ refl

pub id_at-requires : goal.id_at-requires
id_at-requires c = omega (arith, turn-head c.loop.invariant (omega arith))

pub returns-then-segment_takes : goal.returns-then-segment_takes
returns-then-segment_takes c =
    ap (λ id. Ok (Some (record { 0 = id }))) c.id_at.ensures
    ∙ turn-found c.loop.invariant (omega arith)
    (λ gs. first_found c.args.hash _ gs (sym c.segment_takes.ensures ∙ c.if-segment_takes.true))

pub size_at-p-requires : goal.size_at-p-requires
size_at-p-requires c = turn-head c.loop.invariant (omega arith)

pub overflow_add-p : goal.overflow_add-p
overflow_add-p c =
    omega (arith, c.well_formed, turn_inside c.loop.invariant (omega arith) c.size_at-p.result c.size_at-p.ensures)

pub loop-preserved : goal.loop-preserved
loop-preserved c =
    let e : c.args.m - c.loop.counter - 1 ≡ c.args.m - (c.loop.counter + 1) = omega arith in
    subst (Turn (first_taking c.args.hash) c.args.s.now c.args.m (c.loop.p + c.size_at-p.result)) e
    (turn-next c.loop.invariant (omega arith) c.size_at-p.result c.size_at-p.ensures
    (λ gs. first-further c.args.hash _ gs (sym c.segment_takes.ensures ∙ c.if-segment_takes.false)))

pub returns : goal.returns
returns c = first-none c.args.hash ∙ turn_end c.loop.invariant (omega arith)
