-- `read_field` meets its contract: the key is refused, or what stands behind it is the answer. Assumes nothing.
use Prim.Native.Nat.{◌≤◌}
use mathlib.Core.Path.{sym, ◌∙◌}
use lib.ListN.{length}
use Rattle.wire_field_step.proofs.StepLaws.{head-size, field-behind}
use Rattle.wire_field_step.proofs.read_field.Goals.{In-Ok}
use Rattle.wire_field_step.proofs.read_field.Goals as goal

-- the key is found
sized : (c : In-Ok) → c.in-Ok.n ≤ length c.args.s.now
sized c = head-size _ _ _ _ _ (sym c.read_head.ensures ∙ c.in-Ok.is)

pub returns-in-Err : goal.returns-in-Err
returns-in-Err c =
    let p = c in
    rw (sym p.read_head.ensures ∙ p.in-Err.is) c.refused.ensures

pub returns-in-Ok : goal.returns-in-Ok
returns-in-Ok c =
    let p = c in
    field-behind _ _ _ _ _ (sym p.read_head.ensures ∙ p.in-Ok.is) _ c.value_step-step.ensures

pub slice_bounds-value_step-count : goal.slice_bounds-value_step-count
slice_bounds-value_step-count c = sized c

pub slice_bounds-value_step-start : goal.slice_bounds-value_step-start
slice_bounds-value_step-start c = sized c
