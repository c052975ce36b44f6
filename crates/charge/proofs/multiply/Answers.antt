-- `charge::multiply` meets its contract: what the checked product answers is `product_of`.
-- Assumes nothing.
use Prim.Native.Nat.{◌*◌}
use Rattle.charge.proofs.ChargeLaws.{product-checked}
use Rattle.charge.proofs.multiply.Goals as goal

pub returns : goal.returns
returns c = product-checked (c.args.a * c.args.b) c.checked_mul.result c.checked_mul.ensures
