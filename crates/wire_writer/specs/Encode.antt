-- Public: fields as bytes (Protocol Buffers, "Encoding"): varints without redundant bytes, keys, numbers, and
-- length-delimited parts.
--
-- proofs/EncodeLaws says that what is written reads back: `varint_of` gives the number, `fields_of` the field and whatever follows it.
-- Assumes nothing.
use Rattle.std.specs.Prelude.{ℕ, zero, suc, ◌+◌, ◌*◌, ◌/◌, ◌%◌, cond, List, [], ◌∷◌, ◌++◌, length, ltb}

-- a number as a varint of at most k bytes, the low seven bits first
abbrev pub varint_bytes_within : ℕ → ℕ → List ℕ
varint_bytes_within zero v = []
varint_bytes_within (suc k) v = cond (ltb v 128) (v ∷ []) ((v % 128 + 128) ∷ varint_bytes_within k (v / 128))

-- a number below 2 ^ 64 has at most ten bytes
unfoldable pub varint_bytes : ℕ → List ℕ
varint_bytes v = varint_bytes_within 10 v

-- the key of field f: wire type 0 for a number, 2 for a part
abbrev pub number_key : ℕ → List ℕ
number_key f = varint_bytes (8 * f)

abbrev pub part_key : ℕ → List ℕ
part_key f = varint_bytes (8 * f + 2)

-- field f with the number v
unfoldable pub number_field : (f v : ℕ) → List ℕ
number_field f v = number_key f ++ varint_bytes v

-- what stands before a part of n bytes in field f
unfoldable pub part_head : (f n : ℕ) → List ℕ
part_head f n = part_key f ++ varint_bytes n

-- field f with the part p
unfoldable pub part_field : ℕ → List ℕ → List ℕ
part_field f p = part_head f (length p) ++ p
