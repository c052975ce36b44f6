-- `value_step` meets its contract: a part stands inside the slice (`body-size`). Assumes nothing.
use Rattle.std.specs.Prelude.{Some}
use native.Mathlib.Omega.{arith}
use mathlib.Core.Path.{◌≡◌, sym, ◌∙◌, ap}
use Rattle.wire.specs.declared.Body.TheVariants as body
use Rattle.wire.specs.Field.{body_of}
use Rattle.wire.proofs.FieldLaws.{body-size}
use Rattle.wire_field_step.proofs.value_step.Goals.{In-Part}
use Rattle.wire_field_step.proofs.value_step.Goals as goal

-- the part is there
found : (c : In-Part) → body_of c.args.w c.args.s.now ≡ Some (body.Part c.in-Part.n c.in-Part.len)
found c =
    let e : c.read_body.result ≡ Some c.in_ok-body.body = grind (arith, c.in_ok-body.was) in
    sym c.read_body.ensures ∙ (e ∙ ap Some c.in-Part.is)

pub overflow_add-n : goal.overflow_add-n
overflow_add-n c =
    let h = body-size c.args.w c.args.s.now (Some (body.Part _ _)) (found c) in
    omega arith

pub slice_bounds-part_step-end : goal.slice_bounds-part_step-end
slice_bounds-part_step-end c =
    let h = body-size c.args.w c.args.s.now (Some (body.Part _ _)) (found (goal.at.slice_bounds-part_step-end c).In-Part) in
    omega arith
