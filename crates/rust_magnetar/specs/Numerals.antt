-- Public: numbers written and read as text by the Rust, as the standard library's documentation has it: `{}`, `{:04x}`,
-- `parse::<u64>` and `from_str_radix`.
-- Assumes nothing.
use Rattle.std.specs.Prelude.{ℕ, zero, suc, ◌+◌, ◌-◌, ◌*◌, ◌/◌, ◌%◌, ◌^◌, cond, ◌&&◌, List, [], ◌∷◌, ◌++◌, map, length, replicate, ◌==◌, nat_le, nat_lt, Option, Some, None}
use Rattle.rust_magnetar.specs.Text.{Text}

-- ---- written

-- the digits of a number to a base, the most significant first, where it has at most so many
abbrev pub digits : (base most number : ℕ) → List ℕ
digits base zero number = []
digits base (suc most) number =
    cond (nat_lt number base) (number ∷ []) (digits base most (number / base) ++ ((number % base) ∷ []))

-- char::from_digit: '0' to '9', then 'a' on
abbrev pub from-digit : ℕ → ℕ
from-digit digit = cond (nat_lt digit 10) (0x30 + digit) (0x57 + digit)

-- {} of a u64: decimal, at most 20 digits
abbrev pub display : ℕ → Text
display number = map from-digit (digits 10 20 number)

-- {:x} of a u32, at most 8 digits: "a number in hexadecimal, with a through f in lower case"
abbrev pub lower-hex : ℕ → Text
lower-hex number = map from-digit (digits 16 8 number)

-- {:04x}: width 4, "the padding to width should .. be done with a 0 character"
abbrev pub zero-padded : ℕ → Text → Text
zero-padded width s = replicate (width - length s) 0x30 ++ s

abbrev pub lower-hex-4 : ℕ → Text
lower-hex-4 number = zero-padded 4 (lower-hex number)

-- ---- read

-- Option::and_then
abbrev pub and_then : {A B : Type 0} → Option A → (A → Option B) → Option B
and_then None f = None
and_then (Some a) f = f a

-- char::to_digit(radix): "Digits are a subset of these characters, depending on radix: 0-9 a-z A-Z"; a value of 36 is a
-- digit to no radix
abbrev pub digit_value : ℕ → ℕ
digit_value b =
    cond (nat_le 0x30 b && nat_le b 0x39) (b - 0x30)
    (cond (nat_le 0x61 b && nat_le b 0x7A) (b - 0x57)
    (cond (nat_le 0x41 b && nat_le b 0x5A) (b - 0x37)
    36))

abbrev pub to-digit : ℕ → ℕ → Option ℕ
to-digit radix b = cond (nat_lt (digit_value b) radix) (Some (digit_value b)) None

-- the number that these digits make behind those of another
abbrev pub digits-behind : ℕ → ℕ → Text → Option ℕ
digits-behind radix number [] = Some number
digits-behind radix number (b ∷ s) = and_then (to-digit radix b) (λ digit. digits-behind radix (number * radix + digit) s)

-- one digit at least
abbrev pub digits_number : ℕ → Text → Option ℕ
digits_number radix [] = None
digits_number radix (b ∷ s) = digits-behind radix 0 (b ∷ s)

-- "an optional + sign followed by only digits"
abbrev pub without_sign : Text → Text
without_sign [] = []
without_sign (b ∷ s) = cond (b == 0x2B) s (b ∷ s)

-- from_str_radix(s, radix).ok() of an unsigned type with so many values
abbrev pub from-str-radix : (values radix : ℕ) → Text → Option ℕ
from-str-radix values radix s =
    and_then (digits_number radix (without_sign s)) (λ number. cond (nat_lt number values) (Some number) None)

abbrev pub u32-from-str-radix : ℕ → Text → Option ℕ
u32-from-str-radix radix s = from-str-radix (2 ^ 32) radix s

-- s.parse::<u64>().ok(): "with decimal digits"
abbrev pub parse-u64 : Text → Option ℕ
parse-u64 s = from-str-radix (2 ^ 64) 10 s
