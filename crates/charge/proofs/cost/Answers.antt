-- `charge::cost` meets its contract: where the first product does not fit, a rate that is not 0 keeps the whole too
-- large.
-- Assumes nothing.
use Prim.Native.Nat.{ℕ, ◌*◌}
use native.Mathlib.Omega.{arith}
use mathlib.Core.Path.{ap, ◌∙◌}
use Rattle.charge.specs.Charge.{product_of}
use Rattle.charge.proofs.ChargeLaws.{product-none, product_is, product-not, product-large, factor-large}
use Rattle.charge.proofs.cost.Goals as goal

pub returns-then-rate-eq0 : goal.returns-then-rate-eq0
returns-then-rate-eq0 c = product-none (c.args.values * c.args.seconds) c.args.rate c.if-rate-eq0.true

pub returns-in_err-n : goal.returns-in_err-n
returns-in_err-n c =
    let m = c.args.values * c.args.seconds in
    c.from_residual.ensures
    ∙ product-large (m * c.args.rate) (factor-large m c.args.rate (product-not m c.in_err-n.ensures) (λ z. omega (arith, z, c.if-rate-eq0.false)))

pub returns : goal.returns
returns c =
    c.multiply-2.ensures
    ∙ ap (λ (x : ℕ). product_of (x * c.args.rate)) (product_is (c.args.values * c.args.seconds) c.in_ok-n.n c.in_ok-n.ensures)
