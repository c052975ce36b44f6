-- Internal: no claim cites it; whoever reads the claims may skip it.
--
-- Worked rows: commands byte by byte, with what they carry. They hold by computation.
-- Assumes nothing.
use Rattle.std.specs.Prelude.{ℕ, ◌≡◌, refl, List, [], ◌∷◌, ◌++◌, pos, negsuc, Ok, Err}
use Rattle.refusal.specs.declared.Refusal.TheVariants.{InvalidWireFormat, WrongWireType, MissingField}
use Rattle.wire.specs.Varints.{varint_of}
use Rattle.wire.specs.Field.{key_read, fixed_of, number_body, part_of}
use Rattle.wire.specs.Fields.{fields_of}
use Rattle.wire_values.specs.Integers.{int32_of}
use Rattle.wire_values.specs.Places.{front_of}
use Rattle.wire_command.specs.declared.Command.TheVariants.{Update, Response, Watch, Parts, Other}
use Rattle.wire_command.specs.Shell.{shell_value, shell_fault}
use Rattle.wire_command.specs.Places.{places_of}
use Rattle.wire_command.specs.Commands.{message_in, command_by, command_of}

-- fields 74, 75 and 77, each with a message of field 1 alone
abbrev pub answered : ℕ → List ℕ
answered id = 0xd2 ∷ 0x04 ∷ 0x02 ∷ 0x08 ∷ id ∷ []

abbrev pub assigned : ℕ → List ℕ
assigned id = 0xda ∷ 0x04 ∷ 0x02 ∷ 0x08 ∷ id ∷ []

abbrev pub watched : ℕ → List ℕ
watched id = 0xea ∷ 0x04 ∷ 0x02 ∷ 0x08 ∷ id ∷ []

pub record Rows : Type 0 where
  pub an-update : command_of (0x08 ∷ 0x4b ∷ assigned 7) ≡ Ok (Update 5 2 7)
  pub a-response : command_of (0x08 ∷ 0x4a ∷ answered 9) ≡ Ok (Response 5 2 9)
  pub a-watch-update : command_of (0x08 ∷ 0x4d ∷ watched 3) ≡ Ok (Watch 5 2 3)
  -- the type behind the message, and unknown fields of types 0, 1, 2 and 5 between
  pub type-last : command_of
      (assigned 7
      ++ (0x10 ∷ 0x01 ∷ 0x19 ∷ 0 ∷ 0 ∷ 0 ∷ 0 ∷ 0 ∷ 0 ∷ 0 ∷ 0 ∷ 0x22 ∷ 0x01 ∷ 0xff ∷ 0x2d ∷ 0 ∷ 0 ∷ 0 ∷ 0 ∷ 0x08 ∷ 0x4b ∷ []))
      ≡ Ok (Update 3 2 7)
  -- the last type counts, and parts of other fields are passed over
  pub type-twice : command_of (0x08 ∷ 0x4a ∷ (answered 9 ++ (assigned 7 ++ (0x08 ∷ 0x4b ∷ [])))) ≡ Ok (Update 10 2 7)
  -- a message without its field 1, and one with faults of its own: 3, which the inner call tells
  pub no-id : command_of (0x08 ∷ 0x4b ∷ 0xda ∷ 0x04 ∷ 0x00 ∷ []) ≡ Ok (Update 5 0 0)
  pub broken-within : command_of (0x08 ∷ 0x4b ∷ 0xda ∷ 0x04 ∷ 0x01 ∷ 0x00 ∷ []) ≡ Ok (Update 5 1 0)
  -- the message is absent, and in two parts
  pub in-no-part : command_of (0x08 ∷ 0x4b ∷ answered 9) ≡ Ok (Parts (pos 75) 0)
  pub in-two-parts : command_of (0x08 ∷ 0x4d ∷ (watched 3 ++ watched 3)) ≡ Ok (Parts (pos 77) 2)
  -- another type, CONNECT; an unknown one, -1
  pub other : command_of (0x08 ∷ 0x02 ∷ assigned 7) ≡ Ok (Other (pos 2))
  pub unknown : command_of (0x08 ∷ 0xff ∷ 0xff ∷ 0xff ∷ 0xff ∷ 0xff ∷ 0xff ∷ 0xff ∷ 0xff ∷ 0xff ∷ 0x01 ∷ []) ≡ Ok (Other (negsuc 0))
  -- the low 32 bits decide: 75 and 2^32
  pub cut-to-32-bits : command_of (0x08 ∷ 0xcb ∷ 0x80 ∷ 0x80 ∷ 0x80 ∷ 0x10 ∷ assigned 7) ≡ Ok (Update 9 2 7)
  pub no-type : command_of (assigned 7) ≡ Err MissingField
  pub empty : command_of [] ≡ Err MissingField
  -- the type as LEN; a message as a number; both before the missing type
  pub type-as-part : command_of (0x0a ∷ 0x00 ∷ []) ≡ Err WrongWireType
  pub message-as-number : command_of (0xd8 ∷ 0x04 ∷ 0x00 ∷ []) ≡ Err WrongWireType
  -- a length past the end, of a field that is not known; a wire type that is broken in any field
  pub past_the_end : command_of (0x08 ∷ 0x4b ∷ (assigned 7 ++ (0x12 ∷ 0x02 ∷ 0x00 ∷ []))) ≡ Err InvalidWireFormat
  pub group : command_of (0x08 ∷ 0x4b ∷ (assigned 7 ++ (0x13 ∷ []))) ≡ Err InvalidWireFormat

pub rows : Rows
unfolding varint_of key_read fixed_of number_body part_of fields_of int32_of front_of shell_value shell_fault places_of message_in command_by command_of
rows =
    record {
      an-update = refl;
      a-response = refl;
      a-watch-update = refl;
      type-last = refl;
      type-twice = refl;
      no-id = refl;
      broken-within = refl;
      in-no-part = refl;
      in-two-parts = refl;
      other = refl;
      unknown = refl;
      cut-to-32-bits = refl;
      no-type = refl;
      empty = refl;
      type-as-part = refl;
      message-as-number = refl;
      past_the_end = refl;
      group = refl;
    }
