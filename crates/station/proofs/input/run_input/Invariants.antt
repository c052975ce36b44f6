-- `run_input` stays in bounds. Assumes nothing.
use Rattle.std.proofs.Common.{◌≡◌, length}
use Rattle.station.proofs.input.run_input.Given as goal

abbrev pub invariant-loop : goal.invariant-loop
invariant-loop g l = (length l.buffer ≡ length l.initial.buffer) × (length l.store ≡ length l.initial.store) × (length l.window ≡ length l.initial.window) × (length l.kept ≡ length l.initial.kept)
