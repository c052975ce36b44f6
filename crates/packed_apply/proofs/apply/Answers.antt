-- `apply::apply` meets its contract: each return is the case of `apply_outcome` that the answers before it leave.
-- Assumes nothing.
use native.Mathlib.Omega.{arith}
use mathlib.Core.Path.{◌≡◌, sym, ap, ◌∙◌}
use Rattle.std.specs.Prelude.{Some, None}
use Rattle.std.proofs.lemmas.Result.{err_from_is_err_and}
use Rattle.refusal.specs.declared.Refusal.{Refusal}
use Rattle.refusal.specs.declared.Refusal.TheVariants.{MalformedInput, AssignmentTooLong}
use Rattle.output.specs.Output.{refuse}
use Rattle.packed_delta.proofs.RoundLaws.{Walkable, walk-read, not-delta}
use Rattle.packed_overlay.proofs.FitLaws.{Fits, fit-size}
use Rattle.packed.proofs.WholeLaws.{Whole, whole-read, not-assignment}
use Rattle.packed_apply.proofs.ApplyLaws.{no-assignment, no-delta, few-fit, overlaid, too_long, no_room, all-written}
use Rattle.packed_apply.proofs.apply.Goals as goal
use Rattle.packed_apply.proofs.apply.Goals.{In_ok-count, In_ok-losses, In_ok-n}

whole_in : (c : In_ok-count) → Whole c.args.assignment.now c.in_ok-count.count
whole_in c = whole-read c.args.assignment.now _ _ (sym c.in_ok-count.ensures.ok_part ∙ c.read_whole.ensures)

walk-in : (c : In_ok-losses) → Walkable c.args.delta.now c.in_ok-losses.losses c.in_ok-losses.gains
walk-in c =
    let k : c.read_delta.result ≡ Some (c.in_ok-losses.losses, c.in_ok-losses.gains) = grind arith in
    walk-read c.args.delta.now _ _ (sym k ∙ c.read_delta.ensures)

fit-in : (c : In_ok-n) → Fits 2038 (overlaid c.args.assignment.now c.args.delta.now c.in_ok-count.count c.in_ok-losses.losses c.in_ok-losses.gains) c.in_ok-n.n c.in_ok-n.size
fit-in c =
    let k : c.overlay_fit-fit.result ≡ Some (c.in_ok-n.n, c.in_ok-n.size) = grind arith in
    fit-size 2038 _ _ _ (sym k ∙ c.overlay_fit-fit.ensures)

pub returns-in_err-count : goal.returns-in_err-count
returns-in_err-count c =
    let a = c.args in
    let p = err_from_is_err_and c.from_residual.result c.from_residual.ensures.1 in
    let n : c.read_whole.result ≡ None = grind arith in
    let e : c.in_err-count.field-0.0 ≡ MalformedInput = grind arith in
    rw (p.1, p.2)
    (ap (λ (x : Refusal). refuse x a.out.now) e
    ∙ no-assignment a.assignment.now a.delta.now a.out.now (not-assignment a.assignment.now (sym n ∙ c.read_whole.ensures)))

pub returns-in_err-losses : goal.returns-in_err-losses
returns-in_err-losses c =
    let a = c.args in
    let p = err_from_is_err_and c.from_residual-in_err-losses.result c.from_residual-in_err-losses.ensures.1 in
    let n : c.read_delta.result ≡ None = grind arith in
    let e : c.in_err-losses.field-0.0 ≡ MalformedInput = grind arith in
    rw (p.1, p.2)
    (ap (λ (x : Refusal). refuse x a.out.now) e
    ∙ no-delta a.assignment.now a.delta.now a.out.now (not-delta a.delta.now (sym n ∙ c.read_delta.ensures)))

pub overflow_mul-gained : goal.overflow_mul-gained
overflow_mul-gained c = omega (arith, (walk-in (goal.at.overflow_mul-gained c).In_ok-losses).ids-fit)

pub overflow_add-gained : goal.overflow_add-gained
overflow_add-gained c = omega (arith, (walk-in (goal.at.overflow_add-gained c).In_ok-losses).ids-fit)

pub overlay_fit-fit-requires : goal.overlay_fit-fit-requires
overlay_fit-fit-requires c =
    let v = walk-in (goal.at.overlay_fit-fit-requires c).In_ok-losses in
    record { record_row = (whole_in (goal.at.overlay_fit-fit-requires c).In_ok-count).records; id_row = record { fits = v.ids-fit; rise = v.ids-rise }; record_row_2 = v.records }

pub returns-in_err-n : goal.returns-in_err-n
returns-in_err-n c =
    let a = c.args in
    let w = whole_in (goal.at.returns-in_err-n c).In_ok-count in
    let v = walk-in (goal.at.returns-in_err-n c).In_ok-losses in
    let p = err_from_is_err_and c.from_residual-in_err-n.result c.from_residual-in_err-n.ensures.1 in
    let n : c.overlay_fit-fit.result ≡ None = grind arith in
    let e : c.in_err-n.field-0.0 ≡ AssignmentTooLong = grind arith in
    rw (p.1, p.2) (ap (λ (x : Refusal). refuse x a.out.now) e ∙ too_long w v a.out.now (sym n ∙ c.overlay_fit-fit.ensures))

pub overflow_add-size : goal.overflow_add-size
overflow_add-size c = omega (arith, (fit-in (goal.at.overflow_add-size c).In_ok-n).size, (fit-in (goal.at.overflow_add-size c).In_ok-n).within)

pub returns-then-out-size : goal.returns-then-out-size
returns-then-out-size c =
    let a = c.args in
    no_room (whole_in (goal.at.returns-then-out-size c).In_ok-count) (walk-in (goal.at.returns-then-out-size c).In_ok-losses) a.out.now (fit-in (goal.at.returns-then-out-size c).In_ok-n) c.if-out-size.true

pub write_overlay-requires : goal.write_overlay-requires
write_overlay-requires c =
    let v = walk-in (goal.at.write_overlay-requires c).In_ok-losses in record { record_row = (whole_in (goal.at.write_overlay-requires c).In_ok-count).records; id_row = record { fits = v.ids-fit; rise = v.ids-rise }; record_row_2 = v.records; kept_in_bounds = omega (arith, (fit-in (goal.at.write_overlay-requires c).In_ok-n).size, c.if-out-size.false) }

pub overflow_cast-n : goal.overflow_cast-n
overflow_cast-n c = omega (arith, few-fit (fit-in (goal.at.overflow_cast-n c).In_ok-n))

pub read_u64-requires : goal.read_u64-requires
read_u64-requires c =
    omega (arith, (whole_in (goal.at.read_u64-requires c).In_ok-count).records.fits, (walk-in (goal.at.read_u64-requires c).In_ok-losses).ids-fit)

pub overflow_add-result : goal.overflow_add-result
overflow_add-result c =
    let f = fit-in (goal.at.overflow_add-result c).In_ok-n in
    omega (arith, f.size, f.within)

pub returns : goal.returns
returns c =
    let a = c.args in
    all-written (whole_in (goal.at.returns c).In_ok-count) (walk-in (goal.at.returns c).In_ok-losses) a.out.now (fit-in (goal.at.returns c).In_ok-n) c.if-out-size.false c.write_overlay.new.out
    c.write_u16.new.out c.write_u64.new.out c.read_u64.result c.write_overlay.ensures c.write_u16.ensures
    c.read_u64.ensures c.write_u64.ensures
