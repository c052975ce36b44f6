-- `charge::charge` meets its contract: each return is a case of `charge_of`.
-- Assumes nothing.
use Prim.Native.Nat.{◌+◌, ◌*◌}
use native.Mathlib.Omega.{arith}
use mathlib.Core.Path.{◌≡◌, sym, ◌∙◌}
use Rattle.std.proofs.lemmas.Result.{err_from_is_err_and}
use Rattle.refusal.specs.declared.Refusal.TheVariants.{MalformedInput, ChargeTooLarge}
use Rattle.charge.proofs.ChargeLaws.{checked-fits, checked-large, product_is, product-not, held}
use Rattle.charge.proofs.ChargeLaws.{refused-malformed, refused-remainder, refused-sum, charged}
use Rattle.charge.proofs.charge.Goals as goal

pub returns-in_err-values : goal.returns-in_err-values
returns-in_err-values c =
    let p = err_from_is_err_and c.from_residual.result c.from_residual.ensures.1 in
    rw (p.1, p.2, (let e : c.in_err-values.field-0.0 ≡ MalformedInput = grind arith in e))
    (refused-malformed c.args.segment.now c.args.seconds c.args.rate c.args.remainder (sym c.in_err-values.ensures.ok_part ∙ c.values_held.ensures))

pub returns-then-remainder-ge-DIVISOR : goal.returns-then-remainder-ge-DIVISOR
returns-then-remainder-ge-DIVISOR c =
    let v = c.in_ok-values.values in
    let h = held c.args.segment.now v (sym c.in_ok-values.ensures.ok_part ∙ c.values_held.ensures) in
    refused-remainder c.args.segment.now c.args.seconds c.args.rate c.args.remainder v h c.if-remainder-ge-DIVISOR.true

pub returns-in_err-n : goal.returns-in_err-n
returns-in_err-n c =
    let p = err_from_is_err_and c.from_residual-in_err-n.result c.from_residual-in_err-n.ensures.1 in
    let v = c.in_ok-values.values in
    let h = held c.args.segment.now v (sym c.in_ok-values.ensures.ok_part ∙ c.values_held.ensures) in
    let k = product-not (v * c.args.seconds * c.args.rate) (sym c.in_err-n.ensures.ok_part ∙ c.cost.ensures) in
    rw (p.1, p.2, (let e : c.in_err-n.field-0.0 ≡ ChargeTooLarge = grind arith in e))
    (refused-sum c.args.segment.now c.args.seconds c.args.rate c.args.remainder v h (omega (arith, k)))

pub returns-in_err-sum : goal.returns-in_err-sum
returns-in_err-sum c =
    let p = err_from_is_err_and c.from_residual-in_err-sum.result c.from_residual-in_err-sum.ensures.1 in
    let v = c.in_ok-values.values in
    let h = held c.args.segment.now v (sym c.in_ok-values.ensures.ok_part ∙ c.values_held.ensures) in
    let n = c.in_ok-n.n in
    let e = product_is (v * c.args.seconds * c.args.rate) n (sym c.in_ok-n.ensures.ok_part ∙ c.cost.ensures) in
    let k = checked-large (n + c.args.remainder) c.checked_add.result c.in_err-sum.ensures.ok_part c.checked_add.ensures in
    rw (p.1, p.2, (let e : c.in_err-sum.field-0.0 ≡ ChargeTooLarge = grind arith in e))
    (refused-sum c.args.segment.now c.args.seconds c.args.rate c.args.remainder v h (omega (arith, k, e)))

pub returns : goal.returns
returns c =
    let v = c.in_ok-values.values in
    let h = held c.args.segment.now v (sym c.in_ok-values.ensures.ok_part ∙ c.values_held.ensures) in
    let n = c.in_ok-n.n in
    let e = product_is (v * c.args.seconds * c.args.rate) n (sym c.in_ok-n.ensures.ok_part ∙ c.cost.ensures) in
    let k = checked-fits (n + c.args.remainder) c.checked_add.result c.in_ok-sum.sum c.in_ok-sum.ensures.ok_part c.checked_add.ensures in
    rw k.1 (charged c.args.segment.now c.args.seconds c.args.rate c.args.remainder v h (omega arith) n e k.0)
