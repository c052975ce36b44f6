-- `attach_log::rows_in` meets its contract. The invariant: the ids that are left decide (`Left`). The measure is how many are
-- left. Assumes nothing.
use mathlib.Core.Path.{◌≡◌}
use lib.ListN.{length}
use Rattle.attach_log.proofs.PartLaws.{Left}
use Rattle.attach_log.proofs.rows_in.Given as goal

abbrev pub invariant-loop-left : goal.invariant-loop-left
invariant-loop-left l = (length l.ids ≡ 4096) × Left l.attach l.s l.at l.n l.log l.q l.m l.p l.left

abbrev pub decreases-loop-left : goal.decreases-loop-left
decreases-loop-left l = l.left
