-- Public: charging for held segments (02, request l): what a holding of a segment costs, and the remainder for its next
-- one.
--
-- "Seconds, rate and remainder are unsigned 64-bit numbers": the definitions hold of any numbers. Over a list of
-- holdings: specs/Account. Computed answers: specs/Rows.
-- Assumes nothing.
use Rattle.std.specs.Prelude.{ℕ, ◌+◌, ◌*◌, ◌/◌, ◌%◌, ◌^◌, Bool, cond, not, ◌&&◌, ◌||◌, List, [], ◌∷◌, length, leb, eqb, Option, Some, None, Result, Ok, Err}
use Rattle.topic_types.specs.declared.KeyRange.{KeyRange}
use Rattle.refusal.specs.declared.Refusal.TheVariants.{MalformedInput, ChargeTooLarge}
use Rattle.refusal.specs.Steps.{◌>>◌, refuse_if}
use Rattle.ranges_calls.specs.Calls.{values_in}
use Rattle.packed.specs.Assignment.{AssignedSegment, decode_segment, size_segment, ok_segment}
use Rattle.refusal.specs.declared.Refusal.{Refusal}

-- "divided by 235,929,600": 65,536 values times 3,600 seconds
abbrev pub divisor : ℕ
divisor = 235929600

-- "the segment is lent as one record packed as in a sheet, of any bucket count": it is well-formed, and the bytes end
-- where it ends
unfoldable pub is_segment : List ℕ → Bool
is_segment l = eqb (size_segment (decode_segment l)) (length l) && ok_segment (decode_segment l)

-- "the sum of its buckets' lengths"
unfoldable pub lengths_of : List KeyRange → ℕ
lengths_of [] = 0
lengths_of (r ∷ rs) = values_in r + lengths_of rs

-- "Values held is the range's length, or the sum of its buckets' lengths where it has buckets."
unfoldable pub held_in : (range : KeyRange) (buckets : List KeyRange) → ℕ
held_in range [] = values_in range
held_in range (b ∷ bs) = lengths_of (b ∷ bs)

unfoldable pub values_held : AssignedSegment → ℕ
values_held g = held_in g.range g.buckets

-- "A holding costs values held, times whole seconds, times the rate": the product, before it is divided
unfoldable pub cost_of : (segment : List ℕ) (seconds rate : ℕ) → ℕ
cost_of segment seconds rate = values_held (decode_segment segment) * seconds * rate

-- "36, product plus remainder is 2^64 or more, or the remainder lent in is not below the divisor"
unfoldable pub too_large : (cost remainder : ℕ) → Bool
too_large cost remainder = leb (2 ^ 64) (cost + remainder) || leb divisor remainder

-- "The charge is rounded down and the remainder goes into that segment's next holding": the charge, the next remainder
abbrev pub charged_for : (cost remainder : ℕ) → Result (ℕ × ℕ) Refusal
charged_for cost remainder = Ok ((cost + remainder) / divisor, (cost + remainder) % divisor)

-- "a malformed one is 20, tested first"; 36 "before any charge is made"
unfoldable pub charge_of : (segment : List ℕ) (seconds rate remainder : ℕ) → Result (ℕ × ℕ) Refusal
charge_of segment seconds rate remainder = do
  refuse_if Err (not (is_segment segment)) MalformedInput  -- 20
  let cost = cost_of segment seconds rate
  refuse_if Err (too_large cost remainder) ChargeTooLarge  -- 36
  charged_for cost remainder

-- ---- Internal: cited by the contracts of helpers alone

-- what a lent record holds
unfoldable pub holds_of : List ℕ → Option ℕ
holds_of segment = cond (is_segment segment) (Some (values_held (decode_segment segment))) None

-- a product, where 64 bits hold it
unfoldable pub product_of : ℕ → Option ℕ
product_of n = cond (leb (2 ^ 64) n) None (Some n)
