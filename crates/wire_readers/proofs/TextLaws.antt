-- The text of a response, and of a watch update, stands at its place (`response-there`, `watch-there`).
-- Assumes nothing.
use Prim.Native.Nat.{ℕ}
use mathlib.Core.List.{List}
use Rattle.wire_values.specs.Places.{PartIs, PlaceIs}
use Rattle.wire_values.proofs.TextLaws.{text-there}
use Rattle.wire_readers.specs.Messages.{response_of, watch_update_of}
use Rattle.wire_readers.specs.Places.{response_place, watch_place}

module _ (m : List ℕ) (start len : ℕ) where
  pub response-there : PlaceIs m (response_place m) start len → PartIs m (response_of m).message start len
  unfolding response_of
  response-there q = text-there 3 m start len q

  pub watch-there : PlaceIs m (watch_place m) start len → PartIs m (watch_update_of m).message start len
  unfolding watch_update_of
  watch-there q = text-there 5 m start len q
