-- Public: what `overlap` says of ranges that are not reversed: some value lies in both (`common`, and back `shared`).
-- Assumes nothing.
use Rattle.std.specs.Prelude.{◌≡◌, ℕ, ◌≤◌, max, true, leb}
use Rattle.std.proofs.Common.{arith, leb-true, le-leb}
use Rattle.slice.specs.BoolLaws.{both_true}
use Rattle.topic_types.specs.declared.KeyRange.{KeyRange}
use Rattle.ranges.specs.Overlap.{overlap}

-- v lies in the range
pub record Within (v : ℕ) (r : KeyRange) : Type 0 where
  pub low : r.start ≤ v
  pub high : v ≤ r.end

pub common : (a b : KeyRange) → a.start ≤ a.end → b.start ≤ b.end → overlap a b ≡ true → (v : ℕ) × Within v a × Within v b
common a b ha hb e =
    let p : (leb a.start b.end ≡ true) × (leb b.start a.end ≡ true) = both_true _ _ e in
    let f : a.start ≤ b.end = leb-true _ _ p.0 in
    let g : b.start ≤ a.end = leb-true _ _ p.1 in
    (max a.start b.start, record { low = omega arith; high = omega arith }, record { low = omega arith; high = omega arith })

pub shared : (a b : KeyRange) (v : ℕ) → Within v a → Within v b → overlap a b ≡ true
shared a b v p q = rw (le-leb a.start b.end (omega arith), le-leb b.start a.end (omega arith))
