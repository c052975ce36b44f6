-- Public: computed answers of the definitions (02, request l): a row for each kind of answer and each edge, and one
-- account.
-- Assumes nothing.
use Rattle.std.specs.Prelude.{ℕ, ◌*◌, ◌-◌, ◌^◌, ◌≡◌, refl, List, [], ◌∷◌, ◌++◌, Ok, Err}
use Rattle.ranges.specs.Overlap.{overlaps_any, any_overlap}
use Rattle.refusal.specs.declared.Refusal.TheVariants.{MalformedInput, ChargeTooLarge}
use Rattle.slice_int.specs.Be.{be_from, be}
use Rattle.packed.specs.Assignment.{num, decode_range, decode_ranges, decode_segment, size_segment, all_in_order, ok_buckets, ok_segment}
use Rattle.charge.specs.Charge.{divisor, is_segment, lengths_of, held_in, values_held, cost_of, too_large, charge_of}
use Rattle.charge.specs.Account.{Holding, opened, book, book_all}

-- ---- records, all of segment 7

abbrev pub seven : List ℕ
seven = 0 ∷ 0 ∷ 0 ∷ 0 ∷ 0 ∷ 0 ∷ 0 ∷ 7 ∷ []

-- no buckets: the full key space, its lower half, the value 9 alone
abbrev pub full : List ℕ
full = seven ++ (0 ∷ 0 ∷ 255 ∷ 255 ∷ 0 ∷ 0 ∷ [])

abbrev pub half : List ℕ
half = seven ++ (0 ∷ 0 ∷ 127 ∷ 255 ∷ 0 ∷ 0 ∷ [])

abbrev pub one : List ℕ
one = seven ++ (0 ∷ 9 ∷ 0 ∷ 9 ∷ 0 ∷ 0 ∷ [])

-- the full key space with the buckets 16 to 31 and 48 to 48: 17 values
abbrev pub bucketed : List ℕ
bucketed = seven ++ (0 ∷ 0 ∷ 255 ∷ 255 ∷ 0 ∷ 2 ∷ 0 ∷ 16 ∷ 0 ∷ 31 ∷ 0 ∷ 48 ∷ 0 ∷ 48 ∷ [])

-- malformed: a reversed range, two buckets that share 31, a byte too many, a byte too few
abbrev pub reversed : List ℕ
reversed = seven ++ (0 ∷ 9 ∷ 0 ∷ 8 ∷ 0 ∷ 0 ∷ [])

abbrev pub sharing : List ℕ
sharing = seven ++ (0 ∷ 0 ∷ 255 ∷ 255 ∷ 0 ∷ 2 ∷ 0 ∷ 16 ∷ 0 ∷ 31 ∷ 0 ∷ 31 ∷ 0 ∷ 48 ∷ [])

abbrev pub longer : List ℕ
longer = full ++ (0 ∷ [])

abbrev pub shorter : List ℕ
shorter = seven ++ (0 ∷ 0 ∷ 255 ∷ 255 ∷ 0 ∷ [])

-- ---- an account

-- half the key space for half an hour, at a rate whose charge is a quarter of a millionth above 250,000
abbrev pub half_hour : Holding
half_hour = record { segment = half; seconds = 1800; rate = 1000001 }

-- refused: 20, and 36
abbrev pub malformed : Holding
malformed = record { segment = longer; seconds = 1800; rate = 1000001 }

abbrev pub endless : Holding
endless = record { segment = half; seconds = 2 ^ 64 - 1; rate = 2 }

pub record Rows : Type 0 where
  pub the-divisor : divisor ≡ 65536 * 3600
  -- an hour of the full key space costs the rate
  pub full-hour : charge_of full 3600 1000000 0 ≡ Ok (1000000, 0)
  pub half-hour : charge_of half 1800 1000001 0 ≡ Ok (250000, 58982400)
  -- the buckets are charged, not the range
  pub by-buckets : charge_of bucketed 3600 1000000 0 ≡ Ok (259, 94233600)
  -- rounded down; the remainder counts
  pub left : charge_of one 1 1 0 ≡ Ok (0, 1)
  pub left_below : charge_of one 1 1 (divisor - 2) ≡ Ok (0, divisor - 1)
  pub left-enough : charge_of one 1 1 (divisor - 1) ≡ Ok (1, 0)
  -- nothing held for 0 seconds, or at rate 0 however large the rest
  pub no-time : charge_of full 0 1000000 5 ≡ Ok (0, 5)
  pub no-rate : charge_of full (2 ^ 64 - 1) 0 5 ≡ Ok (0, 5)
  -- 36: the product reaches 2^64, or with the remainder; one less is charged
  pub product-large : charge_of full (2 ^ 48) 1 0 ≡ Err ChargeTooLarge
  pub sum-large : charge_of one (2 ^ 64 - 1) 1 1 ≡ Err ChargeTooLarge
  pub sum-largest : charge_of one (2 ^ 64 - 2) 1 1 ≡ Ok (78187493530, 174063615)
  -- 36: the remainder is not below the divisor, whatever the product
  pub remainder-large : charge_of full 0 0 divisor ≡ Err ChargeTooLarge
  -- 20, before 36
  pub no_bytes : charge_of [] 3600 1000000 0 ≡ Err MalformedInput
  pub range-reversed : charge_of reversed 3600 1000000 0 ≡ Err MalformedInput
  pub value-shared : charge_of sharing 3600 1000000 0 ≡ Err MalformedInput
  pub byte_more : charge_of longer 3600 1000000 0 ≡ Err MalformedInput
  pub byte-less : charge_of shorter 3600 1000000 0 ≡ Err MalformedInput
  pub malformed-first : charge_of longer (2 ^ 64 - 1) 2 divisor ≡ Err MalformedInput
  -- four half hours, with two holdings refused in between: each is 250,000 and a quarter, together 1,000,001
  pub account :
      book_all opened (half_hour ∷ malformed ∷ half_hour ∷ half_hour ∷ endless ∷ half_hour ∷ [])
      ≡ record { charged = 1000001; exact = 235929835929600; remainder = 0 }

pub rows : Rows
unfolding overlaps_any any_overlap be_from be num decode_range decode_ranges decode_segment size_segment all_in_order ok_buckets ok_segment
    is_segment lengths_of held_in values_held cost_of too_large charge_of book book_all
rows = record {
  the-divisor = refl;
  full-hour = refl;
  half-hour = refl;
  by-buckets = refl;
  left = refl;
  left_below = refl;
  left-enough = refl;
  no-time = refl;
  no-rate = refl;
  product-large = refl;
  sum-large = refl;
  sum-largest = refl;
  remainder-large = refl;
  no_bytes = refl;
  range-reversed = refl;
  value-shared = refl;
  byte_more = refl;
  byte-less = refl;
  malformed-first = refl;
  account = refl;
}
