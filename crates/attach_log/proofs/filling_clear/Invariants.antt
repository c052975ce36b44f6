-- `attach_log::filling_clear` meets its contract.
-- The invariant: the entries that are left, from the place p on, decide the whole. The measure is how many are left.
-- Assumes nothing.
use Prim.Native.Nat.{◌+◌, ◌*◌}
use mathlib.Core.Path.{◌≡◌}
use lib.ListN.{drop}
use Rattle.attach_entries.specs.Log.{clear_in}
use Rattle.attach_log.proofs.filling_clear.Given as goal

abbrev pub invariant-loop-left : goal.invariant-loop-left
invariant-loop-left l = (l.p + 9 * l.left ≡ 9 * l.n) × (clear_in l.n l.log ≡ clear_in l.left (drop l.p l.log))

abbrev pub decreases-loop-left : goal.decreases-loop-left
decreases-loop-left l = l.left
