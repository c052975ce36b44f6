-- Public: a field at the front of a part: its key, and what stands behind the key (Protocol Buffers, "Encoding",
-- "Message Structure"; 01, Fields).
-- Assumes nothing.
use Rattle.std.specs.Prelude.{ℕ, ◌+◌, ◌/◌, ◌%◌, cond, List, length, leb, eqb, Option, Some, None}
use Rattle.wire.specs.declared.WireType.{WireType}
use Rattle.wire.specs.declared.WireType.TheVariants as type
use Rattle.wire.specs.declared.Body.{Body}
use Rattle.wire.specs.declared.Body.TheVariants as body
use Rattle.wire.specs.Varints.{varint_of}

-- ---- the key

-- the largest key, 2^32 - 1
abbrev pub max_key : ℕ
max_key = 4294967295

-- wire types 0, 1, 2 and 5; "3, 4, 6, 7 are broken in any field"
abbrev pub typed_key : (number t n : ℕ) → Option (ℕ × WireType × ℕ)
typed_key number t n =
    cond (eqb t 0) (Some (number, type.Varint, n))
    (cond (eqb t 1) (Some (number, type.I64, n))
    (cond (eqb t 2) (Some (number, type.Len, n))
    (cond (eqb t 5) (Some (number, type.I32, n)) None)))

-- "field number = key / 8, not 0; wire type = key mod 8"
abbrev pub key_from : Option (ℕ × ℕ) → Option (ℕ × WireType × ℕ)
key_from (Some (v, n)) = cond (leb v max_key) (cond (eqb (v / 8) 0) None (typed_key (v / 8) (v % 8) n)) None
key_from None = None

-- the field's number and type, and the key's length
unfoldable pub key_read : List ℕ → Option (ℕ × WireType × ℕ)
key_read l = key_from (varint_of l)

-- ---- what stands behind the key

-- a number and its length
abbrev pub number_from : Option (ℕ × ℕ) → Option Body
number_from (Some (v, n)) = Some (body.Number v n)
number_from None = None

-- n bytes
unfoldable pub fixed_of : ℕ → List ℕ → Option Body
fixed_of n l = cond (leb n (length l)) (Some (body.Fixed n)) None

-- a length, and as many bytes: where they start and how many they are
abbrev pub part_from : Option (ℕ × ℕ) → ℕ → Option Body
part_from (Some (v, n)) room = cond (leb (n + v) room) (Some (body.Part n v)) None
part_from None room = None

unfoldable pub number_body : List ℕ → Option Body
number_body l = number_from (varint_of l)

unfoldable pub part_of : List ℕ → Option Body
part_of l = part_from (varint_of l) (length l)

abbrev pub body_of : WireType → List ℕ → Option Body
body_of type.Varint l = number_body l
body_of type.I64 l = fixed_of 8 l
body_of type.Len l = part_of l
body_of type.I32 l = fixed_of 4 l
