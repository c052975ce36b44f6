-- `saved::write_positions` meets its contract. The invariant: the first k positions are written.
-- Assumes nothing.
use mathlib.Core.Path.{◌≡◌}
use lib.ListN.{length}
use Rattle.slice_int.specs.Put.{put}
use Rattle.session_saved.specs.Form.{encode_positions}
use Rattle.session_saved.proofs.write_positions.Given as goal

abbrev pub invariant-loop-k : goal.invariant-loop-k
invariant-loop-k l = (l.out ≡ put l.initial.out 40 (encode_positions l.k l.positions)) × (length l.out ≡ length l.initial.out)
