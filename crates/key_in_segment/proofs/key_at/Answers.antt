-- `segment_key::key_at` meets its contract, by the cases of `key_at`. Assumes nothing.
use Rattle.std.specs.Prelude.{Some, Ok}
use mathlib.Core.Path.{ap}
use Rattle.key_in_segment.specs.SegmentKey.{key_at}
use Rattle.key_in_segment.proofs.key_at.Goals as goal

pub returns-in-Some : goal.returns-in-Some
unfolding key_at
returns-in-Some c = rw c.in-Some.is (ap (λ k. Ok (Some k)) c.key_for_hash.ensures)

pub returns-in-None : goal.returns-in-None
unfolding key_at
returns-in-None c = rw c.in-None.is
