-- Public: a varint at the front of a part (Protocol Buffers, "Encoding", "Base 128 Varints"; 01, Fields).
--
-- A byte holds seven bits of the value, the low ones first, and 128 more where another byte follows. There are at most ten bytes; the tenth holds
-- bit 63 alone, so it is 0 or 1. A part that ends before the varint does is broken.
--
-- `varint_of` is the name that contracts cite. The count of `varint_within` is the bytes still allowed.
-- Assumes nothing.
use Rattle.std.specs.Prelude.{ℕ, zero, suc, ◌+◌, ◌-◌, ◌*◌, cond, List, [], ◌∷◌, ltb, leb, Option, Some, None}

-- the byte b, which another follows, in front of a varint
abbrev pub more : ℕ → Option (ℕ × ℕ) → Option (ℕ × ℕ)
more b (Some (v, n)) = Some ((b - 128) + 128 * v, n + 1)
more b None = None

-- the byte b, which ends a varint, where n more bytes would be allowed
abbrev pub ends : ℕ → ℕ → Option (ℕ × ℕ)
ends zero b = cond (leb b 1) (Some (b, 1)) None
ends (suc n) b = Some (b, 1)

-- a varint of at most n bytes at the front of the list: its value and its length
abbrev pub varint_within : ℕ → List ℕ → Option (ℕ × ℕ)
varint_within zero l = None
varint_within (suc n) [] = None
varint_within (suc n) (b ∷ l) = cond (ltb b 128) (ends n b) (more b (varint_within n l))

unfoldable pub varint_of : List ℕ → Option (ℕ × ℕ)
varint_of l = varint_within 10 l
