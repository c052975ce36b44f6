-- `attach_log::load_row` meets its contract. The invariant: the first `count` ids stand in the row (`Loading`). The measure is
-- how many ids are left. Assumes nothing.
use Prim.Native.Nat.{◌-◌}
use mathlib.Core.Path.{◌≡◌}
use lib.ListN.{length}
use Rattle.attach_log.specs.Steps.{Loading}
use Rattle.attach_log.proofs.load_row.Given as goal

abbrev pub invariant-loop-count : goal.invariant-loop-count
invariant-loop-count l = Loading l.attach l.s l.at l.n l.next l.count l.ids × (length l.ids ≡ length l.initial.ids)

abbrev pub decreases-loop-count : goal.decreases-loop-count
decreases-loop-count l = l.n - l.count
