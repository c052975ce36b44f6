-- `varint::read_short_varint` meets its contract: no byte and one byte by `varint-nil` and `varint-one`, two and three by the cases of
-- `shifted` behind one and two bytes, the rest by what `read_long_varint` ensures. Assumes nothing.
use Prim.Native.Nat.{◌+◌, ◌-◌, ◌*◌}
use native.Mathlib.Omega.{arith}
use mathlib.Core.Path.{sym, ◌∙◌}
use lib.ListN.{get_or}
use Rattle.wire.proofs.VarintLaws.{varint-nil, varint-one, varint-behind-one, varint-behind-two, shifted-short, shifted-ends}
use Rattle.wire.proofs.varint.read_short_varint.Goals as goal

pub returns-then-s-eq0 : goal.returns-then-s-eq0
returns-then-s-eq0 c = sym (varint-nil c.args.s.now (omega arith))

pub returns-then-a-lt128 : goal.returns-then-a-lt128
returns-then-a-lt128 c =
    let s = c.args.s.now in
    rw c.wide-a.ensures.value (sym (varint-one s (omega arith) (omega arith)))

pub returns-then-s-eq1 : goal.returns-then-s-eq1
returns-then-s-eq1 c =
    let s = c.args.s.now in
    sym (varint-behind-one s (omega arith) (omega arith) ∙ shifted-short s 1 (get_or s 0 0 - 128) 128 (omega arith))

pub returns-then-b-lt128 : goal.returns-then-b-lt128
returns-then-b-lt128 c =
    let s = c.args.s.now in
    rw (c.wide-a.ensures.value, c.wide-b.ensures.value)
    (sym
    (varint-behind-one s (omega arith) (omega arith)
    ∙ shifted-ends s 1 (get_or s 0 0 - 128) 128 (omega arith) (omega arith) (omega arith)))

pub returns-then-s-eq2 : goal.returns-then-s-eq2
returns-then-s-eq2 c =
    let s = c.args.s.now in
    sym
    (varint-behind-two s (omega arith) (omega arith) (omega arith) (omega arith)
    ∙ shifted-short s 2 (get_or s 0 0 - 128 + 128 * (get_or s 1 0 - 128)) 16384 (omega arith))

pub returns-then-c-lt128 : goal.returns-then-c-lt128
returns-then-c-lt128 c =
    let s = c.args.s.now in
    let d = c in
    rw (d.wide-a.ensures.value, d.wide-b.ensures.value, c.wide-c.ensures.value)
    (sym
    (varint-behind-two s (omega arith) (omega arith) (omega arith) (omega arith)
    ∙ shifted-ends s 2 (get_or s 0 0 - 128 + 128 * (get_or s 1 0 - 128)) 16384 (omega arith) (omega arith) (omega arith)))
