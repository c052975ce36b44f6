-- `eight_ascii` meets its contract. The invariant: where no other byte was counted, the text from `at` on is one if it is one i bytes further on. The
-- measure is the bytes left of eight.
-- Assumes nothing.
use Prim.Native.Nat.{◌+◌, ◌-◌, ◌≤◌}
use mathlib.Core.Path.{◌≡◌}
use lib.ListN.{drop}
use Rattle.utf8.specs.Table.{is_utf8}
use Rattle.utf8.proofs.eight_ascii.Given as goal

abbrev pub invariant-loop-i : goal.invariant-loop-i
invariant-loop-i l = (l.i ≤ 8) × (l.others ≤ l.i) × (l.others ≡ 0 → is_utf8 (drop l.at l.s) ≡ is_utf8 (drop (l.at + l.i) l.s))

abbrev pub decreases-loop-i : goal.decreases-loop-i
decreases-loop-i l = 8 - l.i
