-- `part_at` meets its contract: the byte is the key of field f as a part, and what stands behind it is a length and as many bytes.
-- Assumes nothing.
use Rattle.std.specs.Prelude.{Some}
use Prim.Native.Nat.{◌+◌}
use native.Mathlib.Omega.{arith}
use mathlib.Core.Path.{sym, ◌∙◌, ap}
use Rattle.wire_ordered.specs.Ordered.{PartField}
use Rattle.wire_ordered.proofs.OrderedLaws.{part_field}
use Rattle.wire_ordered.proofs.part_at.Goals.{In-Some-Part}
use Rattle.wire_ordered.proofs.part_at.Goals as goal

-- the part is there
found : (c : In-Some-Part)
    → PartField c.args.f
    c.args.s.now
    c.args.at
    (c.args.at + 1 + c.in-Some-Part.n)
    (c.args.at + 1 + c.in-Some-Part.n
    + c.in-Some-Part.len)
found c =
    let d = c in
    let a = d in
    part_field _ _ _ d.if-s-at.false a.requires.0 a.requires.1 d.if-s-at-2.false _ _
    (sym c.read_body.ensures ∙ (c.in-Some-Part.is ∙ ap Some c.in-Some-Part.field-0-is))

pub overflow_add-from : goal.overflow_add-from
overflow_add-from c = let h = found (goal.at.overflow_add-from c).In-Some-Part in omega arith

pub overflow_add-result : goal.overflow_add-result
overflow_add-result c = let h = found (goal.at.overflow_add-result c).In-Some-Part in omega arith

pub returns : goal.returns
returns c = found c
