-- `read_step` meets its contract: a key that is found has what its field holds, its type fits or does not, and what stands behind it is whole or
-- broken.
-- Assumes nothing.
use Rattle.std.specs.Prelude.{Option, Some, None}
use Prim.Native.Nat.{◌≤◌, ◌-◌}
use borrow.Author.Rules.{rules}
use native.Mathlib.Omega.{arith}
use mathlib.Core.Path.{◌≡◌, sym, ◌∙◌, ap}
use lib.ListN.{length}
use Rattle.wire.specs.declared.Body.{Body}
use Rattle.wire.specs.Field.{key_read}
use Rattle.wire.proofs.FieldLaws.{BodySized, key-size}
use Rattle.wire_command.specs.Steps.{step_after, step_by}
use Rattle.wire_command.proofs.ShellLaws.{step-misfit, step_fits, body-room}
use Rattle.wire_command.proofs.read_step.Goals.{Else-not-fits_wire, After-read_body, In_ok-body}
use Rattle.wire_command.proofs.read_step.Goals as goal

key : (c : Else-not-fits_wire) → key_read c.args.s.now ≡ Some (c.in_ok-f.f, c.in_ok-f.w, c.in_ok-f.n)
key c =
    let e : c.read_key.result ≡ Some (c.in_ok-f.f, c.in_ok-f.w, c.in_ok-f.n) = grind (arith, c.in_ok-f.was) in
    sym c.read_key.ensures ∙ e

sized : (c : Else-not-fits_wire) → c.in_ok-f.n ≤ length c.args.s.now
sized c = (key-size _ _ _ _ (key c)).1

keyed : (c : After-read_body) → key_read c.args.s.now ≡ Some (c.in_ok-f.f, c.in_ok-f.w, c.in_ok-f.n)
keyed c =
    let e : c.read_key.result ≡ Some (c.in_ok-f.f, c.in_ok-f.w, c.in_ok-f.n) = grind (arith, c.in_ok-f.was) in
    sym c.read_key.ensures ∙ e

-- what stands behind the key
room : (c : After-read_body) (b : Option Body) → c.read_body.result ≡ b → BodySized (length c.args.s.now - c.in_ok-f.n) b
room c b e = body-room _ _ _ _ (keyed c) b (sym c.read_body.ensures ∙ e)

answer : (c : After-read_body) (b : Option Body) → c.read_body.result ≡ b
    → let s = c.args.s.now in step_after c.in_ok-f.n b ≡ step_by (key_read s) s
answer c b e =
    step_fits _ _ _ _ (keyed c) _ c.shell_value-v.ensures (sym c.fits_wire.ensures ∙ c.if-not-fits_wire.false) b
    (sym c.read_body.ensures ∙ e)

-- the body is there
found : (c : In_ok-body) → c.read_body.result ≡ Some c.in_ok-body.body
found c = grind (arith, c.in_ok-body.was)

pub returns-then-not-fits_wire : goal.returns-then-not-fits_wire
returns-then-not-fits_wire c =
    let e : c.read_key.result ≡ Some (c.in_ok-f.f, c.in_ok-f.w, c.in_ok-f.n) = grind (arith, c.in_ok-f.was) in
    step-misfit _ _ _ _ (sym c.read_key.ensures ∙ e) _ c.shell_value-v.ensures (sym c.fits_wire.ensures ∙ c.if-not-fits_wire.true)

pub overflow_add-result : goal.overflow_add-result
overflow_add-result c =
    let h = room (goal.at.overflow_add-result c).After-read_body _ (found (goal.at.overflow_add-result c).In_ok-body ∙ ap Some c.in-Number.is) in
    let k = sized (goal.at.overflow_add-result c).Else-not-fits_wire in
    omega arith

pub overflow_add-result-in-Fixed : goal.overflow_add-result-in-Fixed
overflow_add-result-in-Fixed c =
    let h = room (goal.at.overflow_add-result-in-Fixed c).After-read_body _ (found (goal.at.overflow_add-result-in-Fixed c).In_ok-body ∙ ap Some c.in-Fixed.is) in
    let k = sized (goal.at.overflow_add-result-in-Fixed c).Else-not-fits_wire in
    omega arith

pub overflow_add-result-in-Part : goal.overflow_add-result-in-Part
overflow_add-result-in-Part c =
    let h = room (goal.at.overflow_add-result-in-Part c).After-read_body _ (found (goal.at.overflow_add-result-in-Part c).In_ok-body ∙ ap Some c.in-Part.is) in
    let k = sized (goal.at.overflow_add-result-in-Part c).Else-not-fits_wire in
    omega arith

pub overflow_add-result-in-Part-2 : goal.overflow_add-result-in-Part-2
overflow_add-result-in-Part-2 c =
    let h = room (goal.at.overflow_add-result-in-Part-2 c).After-read_body _ (found (goal.at.overflow_add-result-in-Part-2 c).In_ok-body ∙ ap Some c.in-Part.is) in
    let k = sized (goal.at.overflow_add-result-in-Part-2 c).Else-not-fits_wire in
    omega arith

pub slice_bounds-read_body-count : goal.slice_bounds-read_body-count
slice_bounds-read_body-count c = sized (goal.at.slice_bounds-read_body-count c).Else-not-fits_wire

pub slice_bounds-read_body-start : goal.slice_bounds-read_body-start
slice_bounds-read_body-start c = sized (goal.at.slice_bounds-read_body-start c).Else-not-fits_wire

pub returns-in-Number : goal.returns-in-Number
returns-in-Number c = answer (goal.at.returns-in-Number c).After-read_body _ (found (goal.at.returns-in-Number c).In_ok-body ∙ ap Some c.in-Number.is)

pub returns-in-Fixed : goal.returns-in-Fixed
returns-in-Fixed c = answer (goal.at.returns-in-Fixed c).After-read_body _ (found (goal.at.returns-in-Fixed c).In_ok-body ∙ ap Some c.in-Fixed.is)

pub returns-in-Part : goal.returns-in-Part
returns-in-Part c = answer (goal.at.returns-in-Part c).After-read_body _ (found (goal.at.returns-in-Part c).In_ok-body ∙ ap Some c.in-Part.is)

pub returns-in_err-body : goal.returns-in_err-body
returns-in_err-body c =
    let e : c.read_body.result ≡ None = grind (arith, c.in_err-body.was) in
    let h = answer (goal.at.returns-in_err-body c).After-read_body None e in
    search (rules, h)
