-- `number_at` meets its contract: the byte is the key of field f as a number, and the varint behind it is the field's value.
-- Assumes nothing.
use Prim.Native.Nat.{◌+◌}
use native.Mathlib.Omega.{arith}
use mathlib.Core.Path.{sym, ◌∙◌}
use Rattle.wire_ordered.specs.Ordered.{NumberIs}
use Rattle.wire_ordered.proofs.OrderedLaws.{number-field}
use Rattle.wire_ordered.proofs.number_at.Goals.{In_ok-v}
use Rattle.wire_ordered.proofs.number_at.Goals as goal

-- the varint is there
found : (c : In_ok-v)
    → NumberIs c.args.f
    c.args.s.now
    c.args.at
    c.in_ok-v.v
    (c.args.at + 1 + c.in_ok-v.n)
found c =
    let d = c in
    let a = d in
    number-field _ _ _ d.if-s-at.false a.requires.0 a.requires.1 d.if-s-at-2.false _ _
    (sym c.read_short_varint.ensures ∙ c.in_ok-v.was)

pub overflow_add-result : goal.overflow_add-result
overflow_add-result c = let h = found (goal.at.overflow_add-result c).In_ok-v in omega arith

pub returns : goal.returns
returns c = found c
