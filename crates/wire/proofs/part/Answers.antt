-- `part` meets its contract. The length's varint stands inside the part (`varint-size`), so what is left behind it is a number.
-- Assumes nothing.
use native.Mathlib.Omega.{arith}
use mathlib.Core.Path.{sym, ◌∙◌}
use Rattle.wire.proofs.VarintLaws.{varint-size}
use Rattle.wire.proofs.FieldLaws.{part-broken, part-fits, part-over}
use Rattle.wire.proofs.part.Goals as goal

pub returns-in_err-v : goal.returns-in_err-v
returns-in_err-v c = rw c.from_residual.ensures (sym (part-broken _ (sym c.read_varint.ensures ∙ c.in_err-v.was)))

pub overflow_sub-s : goal.overflow_sub-s
overflow_sub-s c =
    let e = sym c.read_varint.ensures ∙ c.in_ok-v.was in
    (varint-size _ _ _ e).1

pub returns-then-len-s : goal.returns-then-len-s
returns-then-len-s c =
    let e = sym c.read_varint.ensures ∙ c.in_ok-v.was in
    let h = varint-size _ _ _ e in
    sym (part-fits _ _ _ e (omega arith))

pub returns-else-len-s : goal.returns-else-len-s
returns-else-len-s c =
    let e = sym c.read_varint.ensures ∙ c.in_ok-v.was in
    let h = varint-size _ _ _ e in
    sym (part-over _ _ _ e (omega arith))
