-- `log_rows::mark_entries` meets its contract. The invariant: the entries that are left and the marks so far say what all
-- entries say (`Marking`). Assumes nothing.
use Prim.Native.Nat.{◌+◌, ◌-◌, ◌*◌}
use native.Mathlib.Omega.{arith}
use mathlib.Core.Path.{◌≡◌, refl, ◌∙◌}
use lib.ListN.{length}
use Rattle.attach_rows.proofs.MarkLaws.{Marking, marking-turn, marking-end}
use Rattle.attach_rows.proofs.mark_entries.Given as goal

abbrev pub invariant-loop-i : goal.invariant-loop-i
invariant-loop-i l = (length l.marks ≡ length l.initial.marks)
    × Marking l.attach l.log l.at l.n l.ids l.initial.marks (l.at + 9 * l.i) (l.n - l.i) l.marks
