-- `varint::read_varint` meets its contract: no byte and one byte by `varint-nil` and `varint-one`, the rest by what `read_long_varint`
-- ensures. Assumes nothing.
use native.Mathlib.Omega.{arith}
use mathlib.Core.Path.{sym}
use Rattle.wire.proofs.VarintLaws.{varint-nil, varint-one}
use Rattle.wire.proofs.varint.read_varint.Goals as goal

pub returns-then-s-eq0 : goal.returns-then-s-eq0
returns-then-s-eq0 c = sym (varint-nil c.args.s.now (omega arith))

pub returns-then-b-lt128 : goal.returns-then-b-lt128
returns-then-b-lt128 c =
    let s = c.args.s.now in
    rw c.wide-b.ensures.value (sym (varint-one s (omega arith) (omega arith)))
