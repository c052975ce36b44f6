-- Public: the numbers of a descriptor (01, Names): "four lower-case hex digits", and a "decimal id without leading
-- zeros", below 2^64.
-- Assumes nothing.
use Rattle.std.specs.Prelude.{ℕ, ◌+◌, ◌-◌, ◌*◌, ◌^◌, Bool, true, cond, not, ◌&&◌, ◌||◌, List, [], ◌∷◌, length, get_or, ltb, eqb, Option, Some, None}
use Rattle.name_parents.specs.Classes.{is_digit_byte, is_hex_digit}
use Rattle.name_parents.specs.Parents.{non_empty}

-- every byte passes the test
unfoldable pub every : (ℕ → Bool) → List ℕ → Bool
every test [] = true
every test (b ∷ l) = test b && every test l

abbrev pub all_digits : List ℕ → Bool
all_digits l = every is_digit_byte l

abbrev pub all_hex_digits : List ℕ → Bool
all_hex_digits l = every is_hex_digit l

-- the number whose leading digits are a and whose others, to the base, are the values of the bytes
unfoldable pub value_from : ℕ → (ℕ → ℕ) → ℕ → List ℕ → ℕ
value_from base value a [] = a
value_from base value a (b ∷ l) = value_from base value (a * base + value b) l

abbrev pub digit_value : ℕ → ℕ
digit_value b = b - 0x30

abbrev pub hex_digit_value : ℕ → ℕ
hex_digit_value b = cond (is_digit_byte b) (b - 0x30) (b - 0x57)

unfoldable pub decimal_value : List ℕ → ℕ
decimal_value l = value_from 10 digit_value 0 l

unfoldable pub hex_value : List ℕ → ℕ
hex_value l = value_from 16 hex_digit_value 0 l

-- four lower-case hexadecimal digits
unfoldable pub is_hex_word : List ℕ → Bool
is_hex_word l = eqb (length l) 4 && all_hex_digits l

-- decimal digits without leading zeros, of a number below 2 ^ 64
unfoldable pub is_segment_id : List ℕ → Bool
is_segment_id l = non_empty l && (all_digits l && ((eqb (length l) 1 || not (eqb (get_or l 0 0) 0x30)) && ltb (decimal_value l) (2 ^ 64)))

-- ---- what the functions of src/ answer

-- the value of a lower-case hexadecimal digit, or 16
unfoldable pub hex_digit_of : ℕ → ℕ
hex_digit_of b = cond (is_hex_digit b) (hex_digit_value b) 16

unfoldable pub hex_word : List ℕ → Option ℕ
hex_word l = cond (is_hex_word l) (Some (hex_value l)) None

unfoldable pub segment_id_of : List ℕ → Option ℕ
segment_id_of l = cond (is_segment_id l) (Some (decimal_value l)) None
