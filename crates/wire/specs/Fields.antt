-- Public: a message as the encoding page has it: a row of fields, one behind the other, whatever they mean.
--
-- `fields_of` gives the fields of a part in byte order. A broken field is the row's last: nothing tells where another would start. The count of
-- `fields_after` is the bytes that still belong to the field before, so the definition goes down the list byte by byte.
-- Assumes nothing.
use Rattle.std.specs.Prelude.{ℕ, zero, suc, ◌+◌, ◌-◌, cond, List, [], ◌∷◌, take, drop, eqb, Option, Some, None}
use Rattle.wire.specs.declared.WireType.{WireType}
use Rattle.wire.specs.declared.Body.{Body}
use Rattle.wire.specs.declared.Body.TheVariants as body
use Rattle.wire.specs.Field.{key_read, body_of}

-- what a field holds: a number, a part, or 8 or 4 bytes; cut where its length or value is broken
pub data Payload : Type 0 where
  number : ℕ → Payload
  bytes : List ℕ → Payload
  fixed : Payload
  cut : Payload

-- a field's number, type and content; bad_key where its key is broken
pub data Field : Type 0 where
  bad_key : Field
  field : ℕ → WireType → Payload → Field

abbrev pub payload_of : Option Body → List ℕ → Payload
payload_of (Some (body.Number v n)) l = number v
payload_of (Some (body.Fixed n)) l = fixed
payload_of (Some (body.Part n len)) l = bytes (take len (drop n l))
payload_of None l = cut

-- a field's length, behind a key of n bytes; 0 where it is broken
abbrev pub size_after : ℕ → Option Body → ℕ
size_after n (Some (body.Number v m)) = n + m
size_after n (Some (body.Fixed m)) = n + m
size_after n (Some (body.Part m len)) = n + (m + len)
size_after n None = 0

-- the field at the front of the list, by its key
abbrev pub field_by : Option (ℕ × WireType × ℕ) → List ℕ → Field
field_by (Some (f, w, n)) l = field f w (payload_of (body_of w (drop n l)) (drop n l))
field_by None l = bad_key

abbrev pub size_by : Option (ℕ × WireType × ℕ) → List ℕ → ℕ
size_by (Some (f, w, n)) l = size_after n (body_of w (drop n l))
size_by None l = 0

-- the fields of a list whose first n bytes belong to a field before
abbrev pub fields_after : ℕ → List ℕ → List Field
fields_after n [] = []
fields_after (suc n) (b ∷ l) = fields_after n l
fields_after zero (b ∷ l) =
    field_by (key_read (b ∷ l)) (b ∷ l)
    ∷ cond (eqb (size_by (key_read (b ∷ l)) (b ∷ l)) 0) [] (fields_after (size_by (key_read (b ∷ l)) (b ∷ l) - 1) l)

unfoldable pub fields_of : List ℕ → List Field
fields_of l = fields_after 0 l
