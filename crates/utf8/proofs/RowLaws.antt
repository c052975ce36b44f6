-- Laws of the table's rows: the rows that a list fits, and the row that a first byte leads to.
--
-- In order: what a row asks at the place i of a slice (`fits-cons`, `span-there`, `span_below`, `span-past`); the table's rows rise
-- by their first spans (`Rising`), so that a first byte lies in one of them at most: the row that it lies in decides alone
-- (`lead-row`; `first-row` at a place), and between two rows nothing fits (`lead-gap`); an empty list has no sequence (`sequence-nil`); a sequence is no longer
-- than the list (`sequence-le`).
--
-- A caller of `sequence` needs `sequence-le` alone; the rest serves the proofs of this crate.
-- Assumes nothing.
use Prim.Native.Nat.{ℕ, zero, suc, ◌+◌, ◌≤◌, ◌<◌}
use native.Mathlib.Nat.{add-zero}
use native.Mathlib.Omega.{arith}
use mathlib.Core.Path.{◌≡◌, refl, sym, ◌∙◌}
use mathlib.Core.Bool.{Bool, true, false, cond, ◌&&◌, and-true, and-false, true≢false}
use mathlib.Core.List.{List, [], ◌∷◌}
use lib.ListN.{length, get_or, drop, length-drop, drop_of_length-le}
use lib.Seq.{drop-drop, drop-cons, get_or-drop}
use lib.Dec.{leb}
use borrow.Author.Tests.{le-leb, lt-leb}
use Rattle.utf8.specs.Table.{Span, span, table, within, fits, sequence_in, sequence_of}

-- ---- a row at the place i of a slice

fits-first : (x : Span) (row : List Span) (l : List ℕ) → fits (x ∷ row) l ≡ (fits (x ∷ []) l && fits row (drop 1 l))
unfolding fits
fits-first x row [] = refl
fits-first x row (b ∷ l) = rw and-true

pub fits-cons : (x : Span) (row : List Span) (i : ℕ) (s : List ℕ)
    → fits (x ∷ row) (drop i s) ≡ (fits (x ∷ []) (drop i s) && fits row (drop (i + 1) s))
fits-cons x row i s = fits-first x row (drop i s) ∙ rw (drop-drop 1 i s)

module _ (low high i : ℕ) (s : List ℕ) where
  span-at : i < length s → fits (span low high ∷ []) (drop i s) ≡ within (span low high) (get_or s i 0)
  unfolding fits
  span-at h = rw (drop-cons s i 0 h, and-true)

  pub span-there : i < length s → low ≤ get_or s i 0 → fits (span low high ∷ []) (drop i s) ≡ leb (get_or s i 0) high
  span-there h p = span-at h ∙ rw (le-leb low (get_or s i 0) p)

  pub span_below : i < length s → get_or s i 0 < low → fits (span low high ∷ []) (drop i s) ≡ false
  span_below h p = span-at h ∙ rw (lt-leb low (get_or s i 0) p)

  pub span-past : length s ≤ i → fits (span low high ∷ []) (drop i s) ≡ false
  unfolding fits
  span-past h = rw (drop_of_length-le s h)

-- ---- the row that a first byte leads to

-- the span of a row's first byte; a row that asks nothing has the empty span
abbrev pub lead : List Span → Span
lead [] = span 1 0
lead (x ∷ row) = x

-- the first spans rise from the byte f on, and none is empty
abbrev pub Rising : ℕ → List (List Span) → Type 0
Rising f [] = Unit {0}
Rising f (row ∷ rows) = (f ≤ (lead row).low) × ((lead row).low ≤ (lead row).high) × Rising (suc (lead row).high) rows

table-rises : Rising 0 table
unfolding table
table-rises = omega arith

rising-at : (f : ℕ) (rows : List (List Span)) (k : ℕ) → Rising f rows → k < length rows
    → (f ≤ (lead (get_or rows k [])).low) × ((lead (get_or rows k [])).low ≤ (lead (get_or rows k [])).high)
rising-at f [] k r h = absurd (let z : ⊥ = omega arith in z)
rising-at f (row ∷ rows) zero r h = (r.0, r.1)
rising-at f (row ∷ rows) (suc k) r h =
    let e = rising-at (suc (lead row).high) rows k r.2 (omega arith) in (omega arith, e.1)

module _ (b : ℕ) (l : List ℕ) where
  -- a row whose first span ends below the byte is passed over
  row_below : (row : List Span) (rows : List (List Span)) → (lead row).low ≤ (lead row).high → (lead row).high < b
      → sequence_in (row ∷ rows) (b ∷ l) ≡ sequence_in rows (b ∷ l)
  unfolding sequence_in fits
  row_below [] rows h p = absurd (let z : ⊥ = omega arith in z)
  row_below (x ∷ row) rows h p = rw (lt-leb b x.high p, and-false (leb x.low b))

  -- every first span starts above the byte
  rows_above : (f : ℕ) (rows : List (List Span)) → Rising f rows → b < f → sequence_in rows (b ∷ l) ≡ 0
  unfolding sequence_in fits
  rows_above f [] r h = refl
  rows_above f ([] ∷ rows) r h = absurd (let z : ⊥ = omega arith in z)
  rows_above f ((x ∷ row) ∷ rows) r h =
      rw (lt-leb x.low b (omega arith)) (rows_above (suc x.high) rows r.2 (omega arith))

  -- the byte lies in the first span of row k
  rows_at : (f : ℕ) (rows : List (List Span)) (k : ℕ) → Rising f rows → k < length rows
      → (lead (get_or rows k [])).low ≤ b → b ≤ (lead (get_or rows k [])).high
      → sequence_in rows (b ∷ l) ≡ cond (fits (drop 1 (get_or rows k [])) l) (length (get_or rows k [])) 0
  unfolding sequence_in fits
  rows_at f [] k r h p q = absurd (let z : ⊥ = omega arith in z)
  rows_at f ([] ∷ rows) zero r h p q = absurd (let z : ⊥ = omega arith in z)
  rows_at f ((x ∷ row) ∷ rows) zero r h p q =
      rw (le-leb x.low b p, le-leb b x.high q, rows_above (suc x.high) rows r.2 (omega arith))
  rows_at f (row ∷ rows) (suc k) r h p q =
      let e = rising-at (suc (lead row).high) rows k r.2 (omega arith) in
      row_below row rows r.1 (omega arith) ∙ rows_at (suc (lead row).high) rows k r.2 (omega arith) p q

  -- the byte lies behind the first span of row k, and every later one starts above it
  rows-between : (f : ℕ) (rows : List (List Span)) (k : ℕ) → Rising f rows → k < length rows
      → (lead (get_or rows k [])).high < b → Rising (suc b) (drop (suc k) rows) → sequence_in rows (b ∷ l) ≡ 0
  rows-between f [] k r h p q = absurd (let z : ⊥ = omega arith in z)
  rows-between f (row ∷ rows) zero r h p q = row_below row rows r.1 p ∙ rows_above (suc b) rows q (omega arith)
  rows-between f (row ∷ rows) (suc k) r h p q =
      let e = rising-at (suc (lead row).high) rows k r.2 (omega arith) in
      row_below row rows r.1 (omega arith) ∙ rows-between (suc (lead row).high) rows k r.2 (omega arith) p q

-- the first byte of s lies in the first span of row k, counted from 0: the rest of that row decides
pub lead-row : (s : List ℕ) (k : ℕ) → 0 < length s → k < length table
    → (lead (get_or table k [])).low ≤ get_or s 0 0 → get_or s 0 0 ≤ (lead (get_or table k [])).high
    → sequence_of s ≡ cond (fits (drop 1 (get_or table k [])) (drop 1 s)) (length (get_or table k [])) 0
unfolding sequence_of
lead-row [] k h n p q = absurd (let z : ⊥ = omega arith in z)
lead-row (b ∷ l) k h n p q = rows_at b l 0 table k table-rises n p q

-- the first byte of s lies behind the first span of row k, and every later one starts above it
pub lead-gap : (s : List ℕ) (k : ℕ) → 0 < length s → k < length table
    → (lead (get_or table k [])).high < get_or s 0 0 → Rising (suc (get_or s 0 0)) (drop (suc k) table) → sequence_of s ≡ 0
unfolding sequence_of
lead-gap [] k h n p q = absurd (let z : ⊥ = omega arith in z)
lead-gap (b ∷ l) k h n p q = rows-between b l 0 table k table-rises n p q

-- a byte of the first row, at a place of a slice, is a sequence by itself
pub first-row : (s : List ℕ) (at : ℕ) → at < length s → get_or s at 0 ≤ 127 → sequence_of (drop at s) ≡ 1
unfolding fits table
first-row s at h b =
    let g : get_or (drop at s) 0 0 ≤ 127 = rw (get_or-drop, add-zero) b in
    lead-row (drop at s) 0 (omega (arith, length-drop at s)) (omega arith) (omega arith) g

pub sequence-nil : (s : List ℕ) → length s ≡ 0 → sequence_of s ≡ 0
unfolding sequence_of sequence_in table fits
sequence-nil [] h = refl
sequence-nil (b ∷ l) h = absurd (let z : ⊥ = omega arith in z)

-- ---- a sequence is no longer than the list

and_right : (a b : Bool) → a && b ≡ true → b ≡ true
and_right true b e = e
and_right false b e = absurd (true≢false (sym e))

cond-le : (t : Bool) (x y m : ℕ) → (t ≡ true → x ≤ m) → y ≤ m → cond t x y ≤ m
cond-le true x y m h k = h refl
cond-le false x y m h k = k

fits-length : (row : List Span) (l : List ℕ) → fits row l ≡ true → length row ≤ length l
unfolding fits
fits-length [] l e = omega arith
fits-length (x ∷ row) [] e = absurd (true≢false (sym e))
fits-length (x ∷ row) (b ∷ l) e = omega (arith, fits-length row l (and_right (within x b) (fits row l) e))

rows-le : (rows : List (List Span)) (l : List ℕ) → sequence_in rows l ≤ length l
unfolding sequence_in
rows-le [] l = omega arith
rows-le (row ∷ rows) l = cond-le (fits row l) (length row) (sequence_in rows l) (length l) (fits-length row l) (rows-le rows l)

pub sequence-le : (l : List ℕ) → sequence_of l ≤ length l
unfolding sequence_of
sequence-le l = rows-le table l
