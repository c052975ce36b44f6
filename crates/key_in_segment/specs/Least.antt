-- Public: the smallest hash that a segment takes (02, request i): its low 16 bits "lie in that segment and, where it has
-- buckets, in a bucket".
--
-- `least_taken` looks through the values of the segment's range, the lowest first. `LeastOf` says what the least value
-- of a test on all numbers is; proofs/LeastLaws: `least_taken` is that (`least-taken`), and there is no other
-- (`least-one`).
-- Assumes nothing.
use Rattle.std.specs.Prelude.{ℕ, zero, suc, ◌-◌, ◌≤◌, ◌≡◌, Bool, true, false, cond, Option, Some, None}
use Rattle.packed.specs.Assignment.{AssignedSegment}
use Rattle.key_lookup.specs.Lookup.{takes}

-- the first of the n values from v on that passes the test
unfoldable pub first_passing : (ℕ → Bool) → (n v : ℕ) → Option ℕ
first_passing p zero v = None
first_passing p (suc n) v = cond (p v) (Some v) (first_passing p n (suc v))

-- the least value of the segment's range that it takes
unfoldable pub least_taken : AssignedSegment → Option ℕ
least_taken g = first_passing (λ v. takes v g) (suc g.range.end - g.range.start) g.range.start

-- ---- what that means

pub record LeastValue (p : ℕ → Bool) (v : ℕ) : Type 0 where
  pub passes : p v ≡ true
  pub least : (u : ℕ) → p u ≡ true → v ≤ u

abbrev pub LeastOf : (ℕ → Bool) → Option ℕ → Type 0
LeastOf p (Some v) = LeastValue p v
LeastOf p None = (u : ℕ) → p u ≡ false
