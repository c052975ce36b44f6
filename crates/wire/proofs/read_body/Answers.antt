-- `read_body` meets its contract: each arm is the case of `body_of` for that type. Assumes nothing.
use mathlib.Core.Path.{sym, ◌∙◌}
use Rattle.wire.proofs.FieldLaws.{number-broken, number-value}
use Rattle.wire.proofs.read_body.Goals as goal

pub returns-in_ok-v-in-Varint : goal.returns-in_ok-v-in-Varint
returns-in_ok-v-in-Varint c =
    let e = sym c.read_long_varint.ensures ∙ c.in_ok-v-in-Varint.was in
    rw c.in-Varint.is (sym (number-value _ _ _ e))

pub returns-in_err-v-in-Varint : goal.returns-in_err-v-in-Varint
returns-in_err-v-in-Varint c =
    let e = sym c.read_long_varint.ensures ∙ c.in_err-v-in-Varint.was in
    rw (c.in-Varint.is, c.from_residual.ensures) (sym (number-broken _ e))

pub returns-in-I64 : goal.returns-in-I64
returns-in-I64 c = rw c.in-I64.is c.fixed.ensures

pub returns-in-Len : goal.returns-in-Len
returns-in-Len c = rw c.in-Len.is c.part.ensures

pub returns-in-I32 : goal.returns-in-I32
returns-in-I32 c = rw c.in-I32.is c.fixed-in-I32.ensures
