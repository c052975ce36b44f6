-- Sorted ranges overlap side by side exactly if some two of the row share a value (`windows-agree`): the Rust's test of bucket ranges is
-- this port's.
--
-- In order: what a sort keeps (`any-sort`); a sorted row's starts do not fall (`sorted_sort`); on such a row the two tests agree
-- (`sides-any`).
-- Assumes nothing.
use Prim.Native.Nat.{ℕ, ◌≤◌, ◌<◌}
use native.Mathlib.Omega.{arith}
use mathlib.Core.Path.{◌≡◌, refl, ap, ap₂, sym, ◌∙◌}
use mathlib.Core.Bool.{Bool, true, false, ◌&&◌, ◌||◌, and_comm, or_assoc, or_comm, false≢true, true≢false}
use mathlib.Core.List.{List, [], ◌∷◌}
use lib.Dec.{eqb, ltb, leb}
use borrow.Author.Tests.{ltb-true, ltb-false, leb-false, eqb-true, le-leb, lt-leb}
use Rattle.topic_types.specs.declared.KeyRange.{KeyRange}
use Rattle.keyed.proofs.KeyedLaws.{choose}
use Rattle.ranges.specs.Overlap.{overlap, overlaps_any, any_overlap}
use Rattle.rust_magnetar.specs.Collections.{insert-by, sort-by, windows-any}
use Rattle.rust_magnetar.specs.Ranges.{KeyRange-le}

-- ---- what a sort keeps

or_swap : (a b c : Bool) → (a || (b || c)) ≡ (b || (a || c))
or_swap a b c = sym (or_assoc a b c) ∙ ap (λ x. x || c) (or_comm a b) ∙ or_assoc b a c

or-four : (a b c d : Bool) → ((a || b) || (c || d)) ≡ ((a || c) || (b || d))
or-four true b c d = refl
or-four false b c d = or_swap b c d

overlap-comm : (a b : KeyRange) → overlap a b ≡ overlap b a
overlap-comm a b = and_comm (leb a.start b.end) (leb b.start a.end)

overlaps-insert : (x r : KeyRange) (l : List KeyRange) → overlaps_any x (insert-by KeyRange-le r l) ≡ (overlap r x || overlaps_any x l)
unfolding overlaps_any
overlaps-insert x r [] = refl
overlaps-insert x r (y ∷ ys) =
    choose (λ l. overlaps_any x l ≡ (overlap r x || overlaps_any x (y ∷ ys))) (KeyRange-le r y) (λ t. refl)
    (λ t. ap (λ b. overlap y x || b) (overlaps-insert x r ys) ∙ or_swap (overlap y x) (overlap r x) (overlaps_any x ys))

overlaps-sort : (x : KeyRange) (l : List KeyRange) → overlaps_any x (sort-by KeyRange-le l) ≡ overlaps_any x l
unfolding overlaps_any
overlaps-sort x [] = refl
overlaps-sort x (y ∷ ys) = overlaps-insert x y (sort-by KeyRange-le ys) ∙ ap (λ b. overlap y x || b) (overlaps-sort x ys)

any-insert : (r : KeyRange) (l : List KeyRange) → any_overlap (insert-by KeyRange-le r l) ≡ (overlaps_any r l || any_overlap l)
unfolding overlaps_any any_overlap
any-insert r [] = refl
any-insert r (y ∷ ys) =
    choose (λ l. any_overlap l ≡ (overlaps_any r (y ∷ ys) || any_overlap (y ∷ ys))) (KeyRange-le r y) (λ t. refl)
    (λ t.
    ap₂ (λ a b. a || b) (overlaps-insert y r ys) (any-insert r ys)
    ∙ or-four (overlap r y) (overlaps_any y ys) (overlaps_any r ys) (any_overlap ys)
    ∙ ap (λ b. (b || overlaps_any r ys) || (overlaps_any y ys || any_overlap ys)) (overlap-comm r y))

any-sort : (l : List KeyRange) → any_overlap (sort-by KeyRange-le l) ≡ any_overlap l
unfolding any_overlap
any-sort [] = refl
any-sort (x ∷ xs) = any-insert x (sort-by KeyRange-le xs) ∙ ap₂ (λ a b. a || b) (overlaps-sort x xs) (any-sort xs)

-- ---- starts that do not fall, ranges that are not reversed

abbrev Low : ℕ → List KeyRange → Type 0
Low m [] = Unit {0}
Low m (b ∷ l) = m ≤ b.start

abbrev Sorted : List KeyRange → Type 0
Sorted [] = Unit {0}
Sorted (a ∷ l) = Low a.start l × Sorted l

abbrev pub Ordered : List KeyRange → Type 0
Ordered [] = Unit {0}
Ordered (a ∷ l) = a.start ≤ a.end × Ordered l

le-true : (a b : KeyRange) → KeyRange-le a b ≡ true → a.start ≤ b.start
le-true a b = go (ltb a.start b.start) refl (eqb a.start b.start) refl
  where
    go : (t : Bool) → ltb a.start b.start ≡ t → (u : Bool) → eqb a.start b.start ≡ u
        → (t || (u && leb a.end b.end)) ≡ true → a.start ≤ b.start
    go true t u v e = omega (arith, ltb-true a.start b.start t)
    go false t true v e = omega (arith, eqb-true a.start b.start v)
    go false t false v e = absurd (false≢true e)

le-false : (a b : KeyRange) → KeyRange-le a b ≡ false → b.start ≤ a.start
le-false a b = go (ltb a.start b.start) refl
  where
    go : (t : Bool) → ltb a.start b.start ≡ t → (t || (eqb a.start b.start && leb a.end b.end)) ≡ false
        → b.start ≤ a.start
    go true t e = absurd (true≢false e)
    go false t e = ltb-false a.start b.start t

low-insert : (m : ℕ) (r : KeyRange) (l : List KeyRange) → m ≤ r.start → Low m l → Low m (insert-by KeyRange-le r l)
low-insert m r [] h a = h
low-insert m r (y ∷ ys) h a = choose (Low m) (KeyRange-le r y) (λ t. h) (λ t. a)

sorted_insert : (r : KeyRange) (l : List KeyRange) → Sorted l → Sorted (insert-by KeyRange-le r l)
sorted_insert r [] s = (tt, tt)
sorted_insert r (y ∷ ys) s =
    choose Sorted (KeyRange-le r y) (λ t. (le-true r y t, s))
    (λ t. (low-insert y.start r ys (le-false r y t) s.0, sorted_insert r ys s.1))

sorted_sort : (l : List KeyRange) → Sorted (sort-by KeyRange-le l)
sorted_sort [] = tt
sorted_sort (x ∷ xs) = sorted_insert x (sort-by KeyRange-le xs) (sorted_sort xs)

ordered-insert : (r : KeyRange) (l : List KeyRange) → r.start ≤ r.end → Ordered l → Ordered (insert-by KeyRange-le r l)
ordered-insert r [] h o = (h, tt)
ordered-insert r (y ∷ ys) h o = choose Ordered (KeyRange-le r y) (λ t. (h, o)) (λ t. (o.0, ordered-insert r ys h o.1))

ordered-sort : (l : List KeyRange) → Ordered l → Ordered (sort-by KeyRange-le l)
ordered-sort [] o = tt
ordered-sort (x ∷ xs) o = ordered-insert x (sort-by KeyRange-le xs) o.0 (ordered-sort xs o.1)

-- ---- side by side

-- pair[0].end() >= pair[1].start()
abbrev touches : KeyRange → KeyRange → Bool
touches a b = leb b.start a.end

-- a range that ends before all others start shares a value with none
none-share : (a : KeyRange) (m : ℕ) (l : List KeyRange) → a.end < m → Low m l → Sorted l → overlaps_any a l ≡ false
unfolding overlaps_any
none-share a m [] h low s = refl
none-share a m (b ∷ l) h low s =
    let apart : leb b.start a.end ≡ false = lt-leb b.start a.end (omega arith) in
    let rest : overlaps_any a l ≡ false = none-share a b.start l (omega arith) s.0 s.1 in
    simp (apart, rest)

sides-any : (l : List KeyRange) → Sorted l → Ordered l → windows-any touches l ≡ any_overlap l
unfolding overlaps_any any_overlap
sides-any [] s o = refl
sides-any (a ∷ []) s o = refl
sides-any (a ∷ (b ∷ l)) s o = go (leb b.start a.end) refl (sides-any (b ∷ l) s.1 o.1)
  where
    go : (t : Bool) → leb b.start a.end ≡ t → windows-any touches (b ∷ l) ≡ any_overlap (b ∷ l)
        → (leb b.start a.end || windows-any touches (b ∷ l)) ≡ (overlaps_any a (b ∷ l) || any_overlap (b ∷ l))
    go true t ih =
        let low : a.start ≤ b.start = s.0 in
        let own : b.start ≤ b.end = o.1.0 in
        let near : leb a.start b.end ≡ true = le-leb a.start b.end (omega arith) in
        simp (t, near)
    go false t ih =
        let far : overlaps_any a l ≡ false = none-share a b.start l (leb-false b.start a.end t) s.1.0 s.1.1 in
        simp (t, far) ih

-- the Rust's test of the sorted row is this port's of the row as it stands
pub windows-agree : (l : List KeyRange) → Ordered l → windows-any (λ a b. leb b.start a.end) (sort-by KeyRange-le l) ≡ any_overlap l
windows-agree l o = sides-any (sort-by KeyRange-le l) (sorted_sort l) (ordered-sort l o) ∙ any-sort l
