-- `join::write_join` meets its contract: each return is the case of `joined_delta` that the counts and the room leave.
-- Assumes nothing.
use Prim.Native.Nat.{◌+◌, ◌-◌, ◌*◌, ◌^◌, ◌≤◌, ◌<◌}
use native.Mathlib.Omega.{arith}
use mathlib.Core.Path.{◌≡◌, sym, ap, ◌∙◌}
use Rattle.std.specs.Prelude.{Some, None}
use Rattle.std.proofs.lemmas.Result.{err_from_is_err_and}
use Rattle.refusal.specs.declared.Refusal.{Refusal}
use Rattle.refusal.specs.declared.Refusal.TheVariants.{ResultTooLong}
use Rattle.output.specs.Output.{refuse}
use lib.ListN.{length}
use Rattle.packed_overlay.specs.Overlay.{overlay, records_in, ids_in}
use Rattle.packed_overlay.proofs.FitLaws.{Fits, fit-size}
use Rattle.packed_join.proofs.JoinLaws.{Walks, walks, many-lost, no-head, no-records, many-gained, all-written}
use Rattle.packed_join.proofs.write_join.Goals as goal
use Rattle.packed_join.proofs.write_join.Goals.{Start, In_ok-gains}

fit-in : (c : In_ok-gains) → Fits (length c.args.out.now - (12 + 8 * c.union_count-losses.result))
    (overlay (ids_in c.args.e.now c.args.b.lost) (records_in c.args.e.now c.args.b.gained) (records_in c.args.d.now c.args.a.gained))
    c.in_ok-gains.gains c.in_ok-gains.size
fit-in c =
    let k : c.overlay_fit-fit.result ≡ Some (c.in_ok-gains.gains, c.in_ok-gains.size) = grind arith in
    fit-size _ _ _ _ (sym k ∙ c.overlay_fit-fit.ensures)

-- the head, the ids and the records have room
room : (c : In_ok-gains) → 12 + 8 * c.union_count-losses.result + c.in_ok-gains.size ≤ length c.args.out.now
room c = omega (arith, (fit-in c).size, (fit-in c).within, c.if-out-head.false)

end_fits : (c : In_ok-gains) → 12 + 8 * c.union_count-losses.result + c.in_ok-gains.size < 2 ^ 64
end_fits c = omega (arith, room c)

-- a walk over the rows of each delta
first-walks : (c : Start) → Walks c.args.d.now c.args.a
first-walks c = walks c.args.d.now c.args.a c.requires.d_value c.requires.a_value.0

second-walks : (c : Start) → Walks c.args.e.now c.args.b
second-walks c = walks c.args.e.now c.args.b c.requires.e_value c.requires.a_value.1

pub union_count-losses-requires : goal.union_count-losses-requires
union_count-losses-requires c =
    let s = (goal.at.union_count-losses-requires c).Start in
    let first = first-walks s in
    let second = second-walks s in
    record { id_row = first.ids; id_row_2 = second.ids; left_bound = omega (arith, first.ids.fits, second.ids.fits) }

pub returns-then-losses-gt-MAX_COUNT : goal.returns-then-losses-gt-MAX_COUNT
returns-then-losses-gt-MAX_COUNT c =
    let s = (goal.at.returns-then-losses-gt-MAX_COUNT c).Start in
    let first = first-walks s in
    let second = second-walks s in
    many-lost first second c.args.out.now c.union_count-losses.ensures c.if-losses-gt-MAX_COUNT.true

pub returns-then-out-head : goal.returns-then-out-head
returns-then-out-head c =
    let s = (goal.at.returns-then-out-head c).Start in
    let first = first-walks s in
    let second = second-walks s in
    no-head first second c.args.out.now c.union_count-losses.ensures c.if-out-head.true

pub overlay_fit-fit-requires : goal.overlay_fit-fit-requires
overlay_fit-fit-requires c =
    let s = (goal.at.overlay_fit-fit-requires c).Start in
    let first = first-walks s in
    let second = second-walks s in
    record { record_row = first.records; id_row = second.ids; record_row_2 = second.records }

pub returns-in_err-gains : goal.returns-in_err-gains
returns-in_err-gains c =
    let s = (goal.at.returns-in_err-gains c).Start in
    let first = first-walks s in
    let second = second-walks s in
    let p = err_from_is_err_and c.from_residual.result c.from_residual.ensures.1 in
    let n : c.overlay_fit-fit.result ≡ None = grind arith in
    let e : c.in_err-gains.field-0.0 ≡ ResultTooLong = grind arith in
    rw (p.1, p.2)
    (ap (λ (x : Refusal). refuse x c.args.out.now) e
    ∙ no-records first second c.args.out.now c.union_count-losses.ensures (sym n ∙ c.overlay_fit-fit.ensures))

pub returns-then-gains-gt-MAX_COUNT : goal.returns-then-gains-gt-MAX_COUNT
returns-then-gains-gt-MAX_COUNT c =
    let s = (goal.at.returns-then-gains-gt-MAX_COUNT c).Start in
    let first = first-walks s in
    let second = second-walks s in
    many-gained first second c.args.out.now c.union_count-losses.ensures (fit-in (goal.at.returns-then-gains-gt-MAX_COUNT c).In_ok-gains) c.if-gains-gt-MAX_COUNT.true

pub write_overlay-requires : goal.write_overlay-requires
write_overlay-requires c =
    let s = (goal.at.write_overlay-requires c).Start in
    let first = first-walks s in
    let second = second-walks s in
    record { record_row = first.records; id_row = second.ids; record_row_2 = second.records; kept_in_bounds = omega (arith, (fit-in (goal.at.write_overlay-requires c).In_ok-gains).size, room (goal.at.write_overlay-requires c).In_ok-gains) }

pub write_union-requires : goal.write_union-requires
write_union-requires c =
    let s = (goal.at.write_union-requires c).Start in
    let first = first-walks s in
    let second = second-walks s in
    record { id_row = first.ids; id_row_2 = second.ids; b_in_bounds = omega (arith, room (goal.at.write_union-requires c).In_ok-gains, c.union_count-losses.ensures, c.write_overlay.auto.out) }

pub read_u64-requires : goal.read_u64-requires
read_u64-requires c =
    let s = (goal.at.read_u64-requires c).Start in
    let first = first-walks s in
    let second = second-walks s in
    omega (arith, first.head, second.head)

pub overflow_add-result : goal.overflow_add-result
overflow_add-result c =
    omega (arith, end_fits (goal.at.overflow_add-result c).In_ok-gains)

pub returns : goal.returns
returns c =
    let s = (goal.at.returns c).Start in
    let first = first-walks s in
    let second = second-walks s in
    all-written first second c.args.out.now c.union_count-losses.ensures (fit-in (goal.at.returns c).In_ok-gains) c.if-losses-gt-MAX_COUNT.false c.if-gains-gt-MAX_COUNT.false (room (goal.at.returns c).In_ok-gains)
    c.write_overlay.new.out c.write_union.new.out c.write_u16.new.out c.write_u16-2.new.out
    c.write_u64.new.out c.read_u64.result c.write_overlay.ensures c.write_union.ensures c.write_u16.ensures
    c.write_u16-2.ensures c.read_u64.ensures c.write_u64.ensures
