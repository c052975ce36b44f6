-- Public: the name of a segment (01, Names): `segment://`, the parent's path, `/`, then "start and end as four
-- lower-case hex digits each, decimal id without leading zeros, joined by `-`".
-- Assumes nothing.
use Rattle.std.specs.Prelude.{ℕ, zero, suc, ◌+◌, ◌/◌, ◌%◌, cond, List, [], ◌∷◌, ◌++◌, ltb}
use Rattle.topic_types.specs.declared.KeyRange.{KeyRange}
use Rattle.topic_types.specs.declared.SegmentId.{SegmentId}

-- "segment://"
abbrev pub segment_scheme : List ℕ
segment_scheme = 0x73 ∷ 0x65 ∷ 0x67 ∷ 0x6D ∷ 0x65 ∷ 0x6E ∷ 0x74 ∷ 0x3A ∷ 0x2F ∷ 0x2F ∷ []

-- its bytes
abbrev pub segment_scheme_size : ℕ
segment_scheme_size = 10

-- the digit of a value below 16: '0' to '9', 'a' to 'f'
abbrev pub hex_digit : ℕ → ℕ
hex_digit n = cond (ltb n 10) (0x30 + n) (0x57 + n)

unfoldable pub hex4 : ℕ → List ℕ
hex4 v = hex_digit (v / 4096 % 16) ∷ hex_digit (v / 256 % 16) ∷ hex_digit (v / 16 % 16) ∷ hex_digit (v % 16) ∷ []

-- v in decimal, where it has at most k digits
unfoldable pub decimal_within : ℕ → ℕ → List ℕ
decimal_within zero v = []
decimal_within (suc k) v = cond (ltb v 10) [] (decimal_within k (v / 10)) ++ ((0x30 + v % 10) ∷ [])

-- a number below 2 ^ 64 in decimal: it has at most 20 digits
unfoldable pub decimal : ℕ → List ℕ
decimal v = decimal_within 20 v

-- what follows the path
unfoldable pub descriptor : KeyRange → SegmentId → List ℕ
descriptor range id = 0x2F ∷ (hex4 range.start ++ (0x2D ∷ (hex4 range.end ++ (0x2D ∷ decimal id.0))))

-- the name of the segment with that range and id below the path
unfoldable pub segment_topic : List ℕ → KeyRange → SegmentId → List ℕ
segment_topic path range id = segment_scheme ++ (path ++ descriptor range id)
