-- Public: worked rows: where a text stands, byte by byte. They hold by computation.
-- Assumes nothing.
use Rattle.std.specs.Prelude.{ℕ, ◌≡◌, refl, List, [], ◌∷◌, Some, None}
use Rattle.std.proofs.Common.{arith}
use Rattle.wire.specs.Varints.{varint_of}
use Rattle.wire.specs.Field.{key_read, fixed_of, number_body, part_of}
use Rattle.wire_values.specs.Places.{front_of, span, places_from, text_place, PlaceIs}

-- field 3 twice, with the same text `a`
abbrev pub twice : List ℕ
twice = 0x1a ∷ 0x01 ∷ 0x61 ∷ 0x1a ∷ 0x01 ∷ 0x61 ∷ []

pub record Rows : Type 0 where
  -- the last counts, and its place alone
  pub last-place : text_place 3 twice ≡ Some (span 5 1)
  pub no_other : PlaceIs twice (text_place 3 twice) 2 1 → ⊥
  -- behind a number and another field's part
  pub behind : text_place 3 (0x08 ∷ 0x07 ∷ 0x22 ∷ 0x01 ∷ 0x61 ∷ 0x1a ∷ 0x00 ∷ []) ≡ Some (span 7 0)
  -- none is there: a number under the text's number, and a part that ends early
  pub absent : text_place 3 (0x18 ∷ 0x01 ∷ 0x1a ∷ 0x02 ∷ 0x61 ∷ []) ≡ None

pub rows : Rows
unfolding places_from front_of varint_of key_read fixed_of number_body part_of
rows = record { last-place = refl; no_other = λ q. omega (arith, q.0); behind = refl; absent = refl }
