-- Public: UTF-8 by Unicode's Table 3-7, "Well-Formed UTF-8 Byte Sequences" (01, Fields: "Texts are UTF-8"; 02, c: "row
-- by row in the table's order").
--
-- `table` is that table, line by line: the spans of the first, second, third and fourth byte, and behind them the row's
-- code points. A text is UTF-8 where it is sequences that fit a row, one behind the other. `is_utf8` is the name that
-- contracts cite.
-- Assumes nothing.
use Rattle.std.specs.Prelude.{ℕ, zero, suc, ◌-◌, Bool, true, false, cond, ◌&&◌, List, [], ◌∷◌, length, leb, eqb}

-- the byte values from low to high
pub record Span : Type 0 where
  pub low : ℕ
  pub high : ℕ

abbrev pub span : (low high : ℕ) → Span
span low high = record { low = low; high = high }

-- a row for each of the table's rows, in its order
unfoldable pub table : List (List Span)
table =
    (span 0x00 0x7F ∷ [])  -- U+0000 to U+007F
    ∷ (span 0xC2 0xDF ∷ span 0x80 0xBF ∷ [])  -- U+0080 to U+07FF
    ∷ (span 0xE0 0xE0 ∷ span 0xA0 0xBF ∷ span 0x80 0xBF ∷ [])  -- U+0800 to U+0FFF
    ∷ (span 0xE1 0xEC ∷ span 0x80 0xBF ∷ span 0x80 0xBF ∷ [])  -- U+1000 to U+CFFF
    ∷ (span 0xED 0xED ∷ span 0x80 0x9F ∷ span 0x80 0xBF ∷ [])  -- U+D000 to U+D7FF
    ∷ (span 0xEE 0xEF ∷ span 0x80 0xBF ∷ span 0x80 0xBF ∷ [])  -- U+E000 to U+FFFF
    ∷ (span 0xF0 0xF0 ∷ span 0x90 0xBF ∷ span 0x80 0xBF ∷ span 0x80 0xBF ∷ [])  -- U+10000 to U+3FFFF
    ∷ (span 0xF1 0xF3 ∷ span 0x80 0xBF ∷ span 0x80 0xBF ∷ span 0x80 0xBF ∷ [])  -- U+40000 to U+FFFFF
    ∷ (span 0xF4 0xF4 ∷ span 0x80 0x8F ∷ span 0x80 0xBF ∷ span 0x80 0xBF ∷ [])  -- U+100000 to U+10FFFF
    ∷ []

-- the byte b lies in the span
abbrev pub within : Span → ℕ → Bool
within s b = leb s.low b && leb b s.high

-- the list starts with a byte in each span of the row, in their order
unfoldable pub fits : List Span → List ℕ → Bool
fits [] l = true
fits (s ∷ row) [] = false
fits (s ∷ row) (b ∷ l) = within s b && fits row l

-- the length of the first row that the list fits, or 0
unfoldable pub sequence_in : List (List Span) → List ℕ → ℕ
sequence_in [] l = 0
sequence_in (row ∷ rows) l = cond (fits row l) (length row) (sequence_in rows l)

-- the length of the well-formed sequence at the front, or 0
unfoldable pub sequence_of : List ℕ → ℕ
sequence_of l = sequence_in table l

-- the text whose first n bytes belong to a sequence that was found well formed
unfoldable pub text_after : ℕ → List ℕ → Bool
text_after n [] = true
text_after (suc n) (b ∷ l) = text_after n l
text_after zero (b ∷ l) = cond (eqb (sequence_of (b ∷ l)) 0) false (text_after (sequence_of (b ∷ l) - 1) l)

-- the text is UTF-8
unfoldable pub is_utf8 : List ℕ → Bool
is_utf8 l = text_after 0 l
