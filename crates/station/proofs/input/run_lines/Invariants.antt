-- `run_lines` stays in bounds and ends. The measure is what is left of the text. Assumes nothing.
use Rattle.std.proofs.Common.{◌≡◌, ◌-◌, ◌≤◌, length}
use Rattle.station.proofs.input.run_lines.Given as goal

abbrev pub invariant-loop-at : goal.invariant-loop-at
invariant-loop-at g l = (l.at ≤ length l.lines_read) × (length l.store ≡ length l.initial.store) × (length l.window ≡ length l.initial.window) × (length l.kept ≡ length l.initial.kept)

abbrev pub decreases-loop-at : goal.decreases-loop-at
decreases-loop-at g l = length l.lines_read - l.at
