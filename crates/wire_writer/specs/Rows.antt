-- Internal: no claim cites it; whoever reads the claims may skip it.
--
-- Published encodings (Protocol Buffers, "Encoding"), each by computation.
-- Assumes nothing.
use Rattle.std.specs.Prelude.{ℕ, ◌-◌, ◌^◌, ◌≡◌, refl, List, [], ◌∷◌}
use Rattle.wire_writer.specs.Encode.{varint_bytes, number_field, part_head, part_field}

-- "testing"
abbrev pub testing : List ℕ
testing = 0x74 ∷ 0x65 ∷ 0x73 ∷ 0x74 ∷ 0x69 ∷ 0x6e ∷ 0x67 ∷ []

-- one field for each row
pub record Rows : Type 0 where
  -- "Base 128 Varints"
  pub one : varint_bytes 1 ≡ 0x01 ∷ []
  pub one-hundred-fifty : varint_bytes 150 ≡ 0x96 ∷ 0x01 ∷ []
  -- "Signed Integers": -2 of type int64 is the number 2 ^ 64 - 2
  pub minus-two : varint_bytes (2 ^ 64 - 2) ≡ 0xfe ∷ 0xff ∷ 0xff ∷ 0xff ∷ 0xff ∷ 0xff ∷ 0xff ∷ 0xff ∷ 0xff ∷ 0x01 ∷ []
  -- "A Simple Message"
  pub number-field : number_field 1 150 ≡ 0x08 ∷ 0x96 ∷ 0x01 ∷ []
  -- "Length-Delimited Records"
  pub text-field : part_field 2 testing ≡ 0x12 ∷ 0x07 ∷ testing
  -- "Submessages"
  pub message-field : part_field 3 (number_field 1 150) ≡ 0x1a ∷ 0x03 ∷ 0x08 ∷ 0x96 ∷ 0x01 ∷ []

pub rows : Rows
unfolding varint_bytes number_field part_head part_field
rows = record {
  one = refl;
  one-hundred-fifty = refl;
  minus-two = refl;
  number-field = refl;
  text-field = refl;
  message-field = refl;
}
