-- Public: worked rows: messages byte by byte, with their first fault. They hold by computation.
-- Assumes nothing.
use Rattle.std.specs.Prelude.{ℕ, ◌≡◌, refl, List, [], ◌∷◌, ◌++◌, ⊤, Result, Ok, Err}
use Rattle.utf8.specs.Table.{table, fits, sequence_in, sequence_of, text_after, is_utf8}
use Rattle.refusal.specs.declared.Refusal.TheVariants.{InvalidWireFormat, WrongWireType, MissingField, InvalidUtf8}
use Rattle.wire.specs.Varints.{varint_of}
use Rattle.wire.specs.Field.{key_read, fixed_of, number_body, part_of}
use Rattle.wire.specs.Fields.{fields_of}
use Rattle.wire_schema.specs.declared.MessageKind.TheVariants.{CommandScalableTopicAssignmentUpdate, CommandScalableTopicSubscribeResponse}
use Rattle.wire_schema.specs.declared.MessageKind.TheVariants.{CommandWatchScalableTopicsUpdate}
use Rattle.wire_schema.specs.Schema.{value_for}
use Rattle.wire_schema.specs.Required.{is_complete}
use Rattle.wire_schema.specs.FirstFault.{first_fault}
use Rattle.refusal.specs.declared.Refusal.{Refusal}

abbrev pub update : List ℕ → Result ⊤ Refusal
update l = first_fault CommandScalableTopicAssignmentUpdate l

abbrev pub response : List ℕ → Result ⊤ Refusal
response l = first_fault CommandScalableTopicSubscribeResponse l

abbrev pub watch : List ℕ → Result ⊤ Refusal
watch l = first_fault CommandWatchScalableTopicsUpdate l

-- segment://a/b/c/0000-7fff-0
abbrev pub name : List ℕ
name =
    0x73 ∷ 0x65 ∷ 0x67 ∷ 0x6d ∷ 0x65 ∷ 0x6e ∷ 0x74 ∷ 0x3a ∷ 0x2f ∷ 0x2f ∷ 0x61 ∷ 0x2f ∷ 0x62 ∷ 0x2f ∷ 0x63 ∷ 0x2f
    ∷ 0x30 ∷ 0x30 ∷ 0x30 ∷ 0x30 ∷ 0x2d ∷ 0x37 ∷ 0x66 ∷ 0x66 ∷ 0x66 ∷ 0x2d ∷ 0x30 ∷ []

-- segment 0, from 0 to 7fff, as field 2 of an assignment
abbrev pub segment : List ℕ
segment = 0x12 ∷ 0x25 ∷ 0x08 ∷ 0x00 ∷ 0x10 ∷ 0x00 ∷ 0x18 ∷ 0xff ∷ 0xff ∷ 0x01 ∷ 0x22 ∷ 0x1b ∷ name

pub record Rows : Type 0 where
  -- row A: consumer 7, epoch 3, one segment
  pub row-a : update (0x08 ∷ 0x07 ∷ 0x12 ∷ 0x29 ∷ 0x08 ∷ 0x03 ∷ segment) ≡ Ok record {}
  pub empty : update [] ≡ Err MissingField
  -- field 1 as LEN, behind field 1
  pub type-of-the-second : update (0x08 ∷ 0x07 ∷ 0x0a ∷ 0x00 ∷ []) ≡ Err WrongWireType
  -- field 1 again, with a value that is cut short
  pub value-of-the-second : update (0x08 ∷ 0x07 ∷ 0x08 ∷ 0xff ∷ []) ≡ Err InvalidWireFormat
  -- field 1 again
  pub number-twice : update (0x08 ∷ 0x07 ∷ 0x12 ∷ 0x02 ∷ 0x08 ∷ 0x01 ∷ 0x08 ∷ 0x09 ∷ []) ≡ Ok record {}
  -- the assignment twice: epoch 3 in the first alone, a segment in both
  pub assignment-twice : update (0x08 ∷ 0x07 ∷ 0x12 ∷ 0x29 ∷ 0x08 ∷ 0x03 ∷ (segment ++ (0x12 ∷ 0x27 ∷ segment))) ≡ Ok record {}
  -- the same without the epoch
  pub epoch-in-none : update (0x08 ∷ 0x07 ∷ 0x12 ∷ 0x27 ∷ (segment ++ (0x12 ∷ 0x27 ∷ segment))) ≡ Err MissingField
  -- two segments, each with what the other lacks, are not merged with one another
  pub segments-apart : update (0x08 ∷ 0x07 ∷ 0x12 ∷ 0x0e ∷ 0x08 ∷ 0x03 ∷ 0x12 ∷ 0x02 ∷ 0x08 ∷ 0x00 ∷ 0x12 ∷ 0x06 ∷ 0x10 ∷ 0x00 ∷ 0x18 ∷ 0x00 ∷ 0x22 ∷ 0x00 ∷ [])
      ≡ Err MissingField
  -- an empty assignment, with a wrong type behind it
  pub missing-after-all : update (0x08 ∷ 0x07 ∷ 0x12 ∷ 0x00 ∷ 0x0a ∷ 0x00 ∷ []) ≡ Err WrongWireType
  -- an empty assignment, with a broken key behind it
  pub missing-after-a-broken-key : update (0x12 ∷ 0x00 ∷ 0x00 ∷ []) ≡ Err InvalidWireFormat
  pub length-past-the-end : update (0x08 ∷ 0x07 ∷ 0x12 ∷ 0x05 ∷ 0x08 ∷ 0x01 ∷ []) ≡ Err InvalidWireFormat
  -- field 2 with wire type 3
  pub group : update (0x08 ∷ 0x07 ∷ 0x13 ∷ 0x14 ∷ []) ≡ Err InvalidWireFormat
  -- the text twice
  pub text-twice : response (0x08 ∷ 0x05 ∷ 0x1a ∷ 0x01 ∷ 0x61 ∷ 0x1a ∷ 0x01 ∷ 0x62 ∷ []) ≡ Ok record {}
  -- the text twice, the first not UTF-8
  pub overridden-text : response (0x08 ∷ 0x05 ∷ 0x1a ∷ 0x01 ∷ 0xff ∷ 0x1a ∷ 0x01 ∷ 0x62 ∷ []) ≡ Err InvalidUtf8
  -- a response needs no assignment; one that is there needs its epoch
  pub no-assignment : response (0x08 ∷ 0x05 ∷ []) ≡ Ok record {}
  pub no-epoch : response (0x08 ∷ 0x05 ∷ 0x22 ∷ 0x00 ∷ []) ≡ Err MissingField
  -- the diff as a number, behind a snapshot
  pub oneof-type : watch (0x08 ∷ 0x09 ∷ 0x12 ∷ 0x00 ∷ 0x18 ∷ 0x00 ∷ []) ≡ Err WrongWireType
  -- a snapshot, a diff and a snapshot
  pub oneof-again : watch (0x08 ∷ 0x09 ∷ 0x12 ∷ 0x03 ∷ 0x0a ∷ 0x01 ∷ 0x61 ∷ 0x1a ∷ 0x03 ∷ 0x0a ∷ 0x01 ∷ 0x62 ∷ 0x12 ∷ 0x00 ∷ []) ≡ Ok record {}
  -- a topic that is not UTF-8, in an event that another replaces
  pub replaced-topic : watch (0x08 ∷ 0x09 ∷ 0x12 ∷ 0x03 ∷ 0x0a ∷ 0x01 ∷ 0xff ∷ 0x1a ∷ 0x03 ∷ 0x0a ∷ 0x01 ∷ 0x62 ∷ []) ≡ Err InvalidUtf8

pub rows : Rows
unfolding first_fault value_for is_complete varint_of key_read fixed_of number_body part_of fields_of is_utf8 text_after sequence_of sequence_in table fits
rows = record {
  row-a = refl;
  empty = refl;
  type-of-the-second = refl;
  value-of-the-second = refl;
  number-twice = refl;
  assignment-twice = refl;
  epoch-in-none = refl;
  segments-apart = refl;
  missing-after-all = refl;
  missing-after-a-broken-key = refl;
  length-past-the-end = refl;
  group = refl;
  text-twice = refl;
  overridden-text = refl;
  no-assignment = refl;
  no-epoch = refl;
  oneof-type = refl;
  oneof-again = refl;
  replaced-topic = refl;
}
