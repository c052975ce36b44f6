-- `varint::read_long_varint` meets its contract.
-- The invariant: after i bytes, of value `value` and next weight `weight` = 2 ^ (7 * i), what is left decides the whole (`shifted` of
-- proofs/VarintLaws). The measure is the bytes left of nine; the tenth is read behind the loop. Assumes nothing.
use Prim.Native.Nat.{ℕ, ◌-◌, ◌*◌}
use native.Mathlib.Omega.{arith}
use mathlib.Core.Path.{refl, sym, ap, ◌∙◌}
use Rattle.wire.proofs.VarintLaws.{shifted_start, shifted-short, shifted-turn, shifted-ends, shifted-last, shifted-over, weight-next, weight-le, sum_below, sum-fits-63, sum-fits-64}
use Rattle.wire.proofs.varint.read_long_varint.Goals as goal

pub loop-i-init : goal.loop-i-init
loop-i-init c = (omega arith, refl, omega arith, shifted_start c.args.s.now)

pub returns-then-s-i : goal.returns-then-s-i
returns-then-s-i c =
    let p = c.loop-i in
    sym (p.invariant.3 ∙ shifted-short _ p.i p.value p.weight c.if-s-i.true)

pub overflow_mul-result : goal.overflow_mul-result
overflow_mul-result c =
    let p = c.loop-i in
    let b = c.wide-b.result in
    omega (arith, sum-fits-63 p.value p.weight b p.i p.invariant.1 p.invariant.2 (omega arith) (omega arith))

pub overflow_add-result : goal.overflow_add-result
overflow_add-result c =
    let p = c.loop-i in
    let b = c.wide-b.result in
    omega (arith, sum-fits-63 p.value p.weight b p.i p.invariant.1 p.invariant.2 (omega arith) (omega arith))

pub returns-then-b-lt128 : goal.returns-then-b-lt128
returns-then-b-lt128 c =
    let p = c.loop-i in
    sym
    (p.invariant.3
    ∙ rw c.wide-b.ensures.value (shifted-ends _ p.i p.value p.weight (omega arith) (omega arith) (omega arith)))

pub overflow_mul-value : goal.overflow_mul-value
overflow_mul-value c =
    let p = c.loop-i in
    let b = c.wide-b.result in
    omega (arith, sum-fits-63 p.value p.weight (b - 128) p.i p.invariant.1 p.invariant.2 (omega arith) (omega arith))

pub overflow_add-value : goal.overflow_add-value
overflow_add-value c =
    let p = c.loop-i in
    let b = c.wide-b.result in
    omega (arith, sum-fits-63 p.value p.weight (b - 128) p.i p.invariant.1 p.invariant.2 (omega arith) (omega arith))

pub overflow_mul-weight : goal.overflow_mul-weight
overflow_mul-weight c = omega (arith, weight-le c.loop-i.i 8 (omega arith))

pub loop-i-preserved : goal.loop-i-preserved
loop-i-preserved c =
    let p = c.loop-i in
    let b = c.wide-b.result in
    let g = sum_below p.value p.weight (b - 128) 127 p.invariant.2 (omega arith) in (
      omega arith,
      ap (λ (w : ℕ). w * 128) p.invariant.1 ∙ weight-next p.i,
      omega arith,
      p.invariant.3 ∙ rw c.wide-b.ensures.value (shifted-turn _ p.i p.value p.weight (omega arith) (omega arith) (omega arith)),
    )

pub returns-then-s-le9 : goal.returns-then-s-le9
returns-then-s-le9 c =
    let p = c.loop-i in
    sym (p.invariant.3 ∙ shifted-short _ p.i p.value p.weight (omega arith))

pub overflow_mul-result-then-last-le1 : goal.overflow_mul-result-then-last-le1
overflow_mul-result-then-last-le1 c =
    let p = c.loop-i in
    let b = c.wide-last.result in
    omega (arith, sum-fits-64 p.value p.weight b p.i p.invariant.1 p.invariant.2 p.invariant.0 (omega arith))

pub overflow_add-result-then-last-le1 : goal.overflow_add-result-then-last-le1
overflow_add-result-then-last-le1 c =
    let p = c.loop-i in
    let b = c.wide-last.result in
    omega (arith, sum-fits-64 p.value p.weight b p.i p.invariant.1 p.invariant.2 p.invariant.0 (omega arith))

pub returns-then-last-le1 : goal.returns-then-last-le1
returns-then-last-le1 c =
    let p = c.loop-i in
    sym
    (p.invariant.3
    ∙ rw c.wide-last.ensures.value (shifted-last _ p.i p.value p.weight (omega arith) (omega arith) (omega arith)))

pub returns-else-last-le1 : goal.returns-else-last-le1
returns-else-last-le1 c =
    let p = c.loop-i in
    sym (p.invariant.3 ∙ shifted-over _ p.i p.value p.weight (omega arith) (omega arith) (omega arith))
