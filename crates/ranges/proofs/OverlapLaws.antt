-- Laws of the tests of ranges and rows, over plain lists and numbers.
--
-- In order: rows that are joined (`overlaps-any-append`, `any_append`), for callers that test row against row (`cross_overlap`); a row that
-- rises has no two ranges that share a value (`rising-apart`).
-- Assumes nothing.
use mathlib.Core.Path.{◌≡◌, refl, sym}
use Prim.Native.Nat.{ℕ, suc, ◌<◌, ◌≤◌}
use native.Mathlib.Omega.{arith}
use mathlib.Core.Bool.{Bool, true, false, ◌||◌, or_assoc}
use mathlib.Core.List.{List, [], ◌∷◌, ◌++◌}
use lib.Dec.{leb}
use borrow.Author.Tests.{leb-true, lt-leb}
use Rattle.slice.specs.BoolLaws.{both_true}
use Rattle.topic_types.specs.declared.KeyRange.{KeyRange}
use Rattle.ranges.specs.Overlap.{overlap, overlaps_any, any_overlap, starts_from, rising_from}

-- ---- rows that are joined
-- some range of the first row shares a value with one of the second
unfoldable pub cross_overlap : List KeyRange → List KeyRange → Bool
cross_overlap [] ys = false
cross_overlap (x ∷ xs) ys = overlaps_any x ys || cross_overlap xs ys

or_swap : (a b c d : Bool) → (a || b) || (c || d) ≡ (a || c) || (b || d)
or_swap true b c d = refl
or_swap false true true d = refl
or_swap false true false d = refl
or_swap false false c d = refl

pub overlaps-any-append : (r : KeyRange) (xs ys : List KeyRange) → overlaps_any r (xs ++ ys) ≡ overlaps_any r xs || overlaps_any r ys
unfolding overlaps_any
overlaps-any-append r [] ys = refl
overlaps-any-append r (x ∷ xs) ys = rw (overlaps-any-append r xs ys) (sym (or_assoc (overlap x r) (overlaps_any r xs) (overlaps_any r ys)))

pub any_append : (xs ys : List KeyRange) → any_overlap (xs ++ ys) ≡ any_overlap xs || (cross_overlap xs ys || any_overlap ys)
unfolding any_overlap cross_overlap
any_append [] ys = refl
any_append (x ∷ xs) ys =
    rw (overlaps-any-append x xs ys, any_append xs ys, or_assoc (overlaps_any x ys) (cross_overlap xs ys) (any_overlap ys))
    (or_swap (overlaps_any x xs) (overlaps_any x ys) (any_overlap xs) (cross_overlap xs ys || any_overlap ys))

-- ---- rows that rise
-- what is known of the first range of a row that rises, and of the ranges behind it
pub record Rises (low : ℕ) (r : KeyRange) (rs : List KeyRange) : Type 0 where
  pub starts : low ≤ r.start
  pub not-reversed : r.start ≤ r.end
  pub behind : rising_from (suc r.end) rs ≡ true

rising-parts : (low : ℕ) (r : KeyRange) (rs : List KeyRange) → rising_from low (r ∷ rs) ≡ true → Rises low r rs
unfolding rising_from
rising-parts low r rs e =
    let p : (starts_from low r ≡ true) × (rising_from (suc r.end) rs ≡ true) = both_true _ _ e in
    let q : (leb low r.start ≡ true) × (leb r.start r.end ≡ true) = both_true _ _ p.0 in
    record { starts = leb-true _ _ q.0; not-reversed = leb-true _ _ q.1; behind = p.1 }

-- a range that ends below a row that rises shares no value with its ranges
rising-above : (r : KeyRange) (low : ℕ) (rs : List KeyRange) → r.end < low → rising_from low rs ≡ true → overlaps_any r rs ≡ false
unfolding overlaps_any
rising-above r low [] h e = refl
rising-above r low (x ∷ xs) h e =
    let p : Rises low x xs = rising-parts low x xs e in
    rw (lt-leb x.start r.end (omega arith)) (rising-above r (suc x.end) xs (omega arith) p.behind)

pub rising-apart : (low : ℕ) (rs : List KeyRange) → rising_from low rs ≡ true → any_overlap rs ≡ false
unfolding any_overlap
rising-apart low [] e = refl
rising-apart low (r ∷ rs) e =
    let p : Rises low r rs = rising-parts low r rs e in
    rw (rising-above r (suc r.end) rs (omega arith) p.behind) (rising-apart (suc r.end) rs p.behind)
