-- `text` meets its contract: it is the part whose place `last_part` tells. Assumes nothing.
use native.Mathlib.Nat.{add-sub_cancel_left}
use native.Mathlib.Omega.{arith}
use Rattle.wire.specs.Fields.{fields_of}
use Rattle.wire_values.specs.Values.{parts_of, last_part}
use Rattle.wire_values.specs.Places.{PartIs}
use Rattle.wire_values.proofs.TextLaws.{text-there}
use Rattle.wire_values.proofs.text.Goals.{After-last_part-p}
use Rattle.wire_values.proofs.text.Goals as goal

-- the place that `last_part` tells
there : (c : After-last_part-p) → let a = c.args in let p = c.last_part-p.result in
    PartIs a.message.now (last_part (parts_of a.n (fields_of a.message.now))) p.start p.length
there c = text-there _ _ _ _ c.last_part-p.ensures

pub overflow_add-end : goal.overflow_add-end
overflow_add-end c = let p = there (goal.at.overflow_add-end c).After-last_part-p in omega (arith, p.inside)

pub slice_bounds-result-end : goal.slice_bounds-result-end
slice_bounds-result-end c = let p = there (goal.at.slice_bounds-result-end c).After-last_part-p in omega (arith, p.inside)

pub returns : goal.returns
returns c =
    let p = c.last_part-p.result in
    rw (add-sub_cancel_left p.start p.length) (there (goal.at.returns c).After-last_part-p).is-text
