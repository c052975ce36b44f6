-- `join::join` meets its contract: each return is the case of `join_outcome` that the readers' answers leave.
-- Assumes nothing.
use Rattle.std.specs.Prelude.{Some, None}
use Rattle.std.proofs.lemmas.Result.{err_from_is_err_and}
use native.Mathlib.Omega.{arith}
use mathlib.Core.Path.{◌≡◌, sym, ap, ◌∙◌}
use Rattle.refusal.specs.declared.Refusal.{Refusal}
use Rattle.refusal.specs.declared.Refusal.TheVariants.{MalformedInput}
use Rattle.output.specs.Output.{refuse}
use Rattle.packed_delta.proofs.RoundLaws.{Walkable, walk-read, not-delta}
use Rattle.packed_join.proofs.JoinLaws.{no-first, no_second, both, rows_in}
use Rattle.packed_join.proofs.join.Goals as goal
use Rattle.packed_join.proofs.join.Goals.{In_ok-losses, In_ok-more_losses}

first-in : (c : In_ok-losses) → Walkable c.args.d.now c.in_ok-losses.losses c.in_ok-losses.gains
first-in c =
    let k : c.read_delta.result ≡ Some (c.in_ok-losses.losses, c.in_ok-losses.gains) = grind arith in
    walk-read c.args.d.now _ _ (sym k ∙ c.read_delta.ensures)

second-in : (c : In_ok-more_losses) → Walkable c.args.e.now c.in_ok-more_losses.more_losses c.in_ok-more_losses.more_gains
second-in c =
    let k : c.read_delta-2.result ≡ Some (c.in_ok-more_losses.more_losses, c.in_ok-more_losses.more_gains) = grind arith in
    walk-read c.args.e.now _ _ (sym k ∙ c.read_delta-2.ensures)

pub returns-in_err-losses : goal.returns-in_err-losses
returns-in_err-losses c =
    let a = c.args in
    let p = err_from_is_err_and c.from_residual.result c.from_residual.ensures.1 in
    let n : c.read_delta.result ≡ None = grind arith in
    let e : c.in_err-losses.field-0.0 ≡ MalformedInput = grind arith in
    rw (p.1, p.2)
    (ap (λ (x : Refusal). refuse x a.out.now) e ∙ no-first a.d.now a.e.now a.out.now (not-delta a.d.now (sym n ∙ c.read_delta.ensures)))

pub returns-in_err-more_losses : goal.returns-in_err-more_losses
returns-in_err-more_losses c =
    let a = c.args in
    let p = err_from_is_err_and c.from_residual-in_err-more_losses.result c.from_residual-in_err-more_losses.ensures.1 in
    let n : c.read_delta-2.result ≡ None = grind arith in
    let e : c.in_err-more_losses.field-0.0 ≡ MalformedInput = grind arith in
    rw (p.1, p.2)
    (ap (λ (x : Refusal). refuse x a.out.now) e ∙ no_second a.d.now a.e.now a.out.now (not-delta a.e.now (sym n ∙ c.read_delta-2.ensures)))

pub rows_of-a-requires : goal.rows_of-a-requires
rows_of-a-requires c = omega (arith, (first-in (goal.at.rows_of-a-requires c).In_ok-losses).ids-fit)

pub rows_of-b-requires : goal.rows_of-b-requires
rows_of-b-requires c = omega (arith, (second-in (goal.at.rows_of-b-requires c).In_ok-more_losses).ids-fit)

pub write_join-requires : goal.write_join-requires
write_join-requires c =
    let v = first-in (goal.at.write_join-requires c).In_ok-losses in
    let w = second-in (goal.at.write_join-requires c).In_ok-more_losses in
    record { d_value = v.is-delta; e_value = w.is-delta; a_value = (c.rows_of-a.ensures ∙ rows_in v, c.rows_of-b.ensures ∙ rows_in w) }

pub returns : goal.returns
returns c =
    let a = c.args in
    c.write_join.ensures ∙ both a.d.now a.e.now a.out.now (first-in (goal.at.returns c).In_ok-losses).is-delta (second-in (goal.at.returns c).In_ok-more_losses).is-delta
