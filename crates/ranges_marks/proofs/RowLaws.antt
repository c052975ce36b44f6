-- Laws of marks that hold the values of ranges.
--
-- In order: valid ranges (`valid-left`, `valid-right`); words in which nothing is marked (`holds-none`); ranges and their values (`points-apart`,
-- `range-apart`); one more range (`told-one`, `holds-one`, `any-one`); ranges marked one by one (`Apart`); a row that is being marked
-- (`RowTurn`): at its start, where a range is found to share a value (`row-found`), with one more range (`row_next`), at its end (`row-end`).
-- Assumes nothing.
use mathlib.Core.Path.{◌≡◌, refl, sym, ap, subst, ◌∙◌}
use Prim.Native.Nat.{ℕ, zero, suc, ◌+◌, ◌/◌, ◌%◌, ◌≤◌, ◌<◌}
use native.Mathlib.Omega.{arith}
use native.Mathlib.Numerals.{add-one}
use mathlib.Core.Bool.{Bool, true, false, ◌&&◌, ◌||◌, true≢false, false≢true}
use mathlib.Core.List.{List, [], ◌∷◌, ◌++◌, append_assoc, append-nil}
use lib.Dec.{leb}
use lib.ListN.{length, get_or, take, drop, take-append-drop, replicate}
use lib.Seq.{take-suc, take_all, drop-cons}
use borrow.Author.Tests.{leb-true, le-leb}
use Rattle.slice.specs.BoolLaws.{both_true}
use Rattle.topic_types.specs.declared.KeyRange.{KeyRange}
use Rattle.ranges.specs.Meaning.{Within, common, shared}
use Rattle.ranges.specs.Overlap.{overlap, overlaps_any, any_overlap}
use Rattle.ranges.proofs.OverlapLaws.{cross_overlap, overlaps-any-append, any_append}
use Rattle.ranges_marks.specs.Marks.{marked, point, Valid, AllValid, more, Holds, Marking, RowMarking}
use Rattle.ranges_marks.specs.Bits.{bit}
use Rattle.ranges_marks.proofs.BitLaws.{bit-zero}
use Rattle.ranges_marks.proofs.MarkLaws.{below_or}

-- ---- valid ranges
pub valid-left : (xs ys : List KeyRange) → AllValid (xs ++ ys) → AllValid xs
valid-left [] ys g = AllValid.none
valid-left (x ∷ xs) ys (more h g) = more h (valid-left xs ys g)

pub valid-right : (xs ys : List KeyRange) → AllValid (xs ++ ys) → AllValid ys
valid-right [] ys g = g
valid-right (x ∷ xs) ys (more h g) = valid-right xs ys g

valid-first : {x : KeyRange} {xs : List KeyRange} → AllValid (x ∷ xs) → Valid x
valid-first (more h g) = h

-- ---- no marks
zeros : (n i : ℕ) → ◌≡◌ {A = ℕ} (get_or (replicate n 0) i 0) 0
zeros zero i = refl
zeros (suc n) zero = refl
zeros (suc n) (suc i) = zeros n i

pub holds-none : Holds (replicate 1024 0) []
unfolding marked overlaps_any
holds-none = record { long = refl; same = λ v h. ap (λ (w : ℕ). bit w (v % 64)) (zeros 1024 (v / 64)) ∙ bit-zero (v % 64) }

-- ---- ranges and their values
neither : (s t : Bool) → s || t ≡ false → (s ≡ false) × (t ≡ false)
neither true t e = absurd (true≢false e)
neither false t e = (refl, e)

untrue : (t : Bool) → (t ≡ true → ⊥) → t ≡ false
untrue true f = absurd (f refl)
untrue false f = refl

value_of : (x : KeyRange) (v : ℕ) → overlap x (point v) ≡ true → Within v x
value_of x v e =
    let p = both_true (leb x.start v) (leb v x.end) e in
    record { low = leb-true _ _ p.0; high = leb-true _ _ p.1 }

of-value : (x : KeyRange) (v : ℕ) → Within v x → overlap x (point v) ≡ true
of-value x v w = rw (le-leb x.start v w.low, le-leb v x.end w.high)

module _ (r : KeyRange) where
  points-apart : (xs : List KeyRange) → overlaps_any r xs ≡ false → (v : ℕ) → Within v r → overlaps_any (point v) xs ≡ false
  unfolding overlaps_any
  points-apart [] e v w = refl
  points-apart (x ∷ xs) e v w =
      let p = neither (overlap x r) (overlaps_any r xs) e in
      let f : overlap x (point v) ≡ false = untrue _ (λ y. false≢true (sym p.0 ∙ shared x r v (value_of x v y) w)) in
      rw f (points-apart xs p.1 v w)

  range-apart : Valid r → (xs : List KeyRange) → AllValid xs → ((v : ℕ) → Within v r → overlaps_any (point v) xs ≡ false)
      → overlaps_any r xs ≡ false
  unfolding overlaps_any
  range-apart g [] a f = refl
  range-apart g (x ∷ xs) (more h a) f =
      let e : overlap x r ≡ false = untrue _ (λ y.
      let c = common x r h.in_order g.in_order y in
      false≢true (sym (neither (overlap x (point c.0)) (overlaps_any (point c.0) xs) (f c.0 c.2)).0 ∙ of-value x c.0 c.1)) in
      rw e (range-apart g xs a (λ v w. (neither (overlap x (point v)) (overlaps_any (point v) xs) (f v w)).1))

-- ---- one more range
overlap-swap : (a b : KeyRange) → overlap a b ≡ overlap b a
overlap-swap a b = go (leb a.start b.end) (leb b.start a.end)
  where
    go : (s t : Bool) → s && t ≡ t && s
    go true true = refl
    go true false = refl
    go false true = refl
    go false false = refl

or-none : (t : Bool) → t || false ≡ t
or-none true = refl
or-none false = refl

cross-one : (xs : List KeyRange) (r : KeyRange) → cross_overlap xs (r ∷ []) ≡ overlaps_any r xs
unfolding cross_overlap overlaps_any
cross-one [] r = refl
cross-one (x ∷ xs) r = rw (or-none (overlap r x), cross-one xs r, overlap-swap r x)

pub any-one : (xs : List KeyRange) (r : KeyRange) → any_overlap (xs ++ (r ∷ [])) ≡ any_overlap xs || overlaps_any r xs
unfolding any_overlap overlaps_any
any-one xs r = any_append xs (r ∷ []) ∙ rw (cross-one xs r, or-none (overlaps_any r xs))

overlaps-any-one : (q : KeyRange) (xs : List KeyRange) (r : KeyRange) → overlaps_any q (xs ++ (r ∷ [])) ≡ overlaps_any q xs || overlap r q
unfolding overlaps_any
overlaps-any-one q xs r = overlaps-any-append q xs (r ∷ []) ∙ rw (or-none (overlap r q))

module _ {m : List ℕ} {r : KeyRange} {t : Bool} {m' : List ℕ} (M : Marking m r t m') (xs : List KeyRange) (H : Holds m xs) (g : Valid r)
    (a : AllValid xs) where
  pub told-one : t ≡ overlaps_any r xs
  told-one = go t (overlaps_any r xs) refl refl
    where
      go : (s u : Bool) → t ≡ s → overlaps_any r xs ≡ u → t ≡ overlaps_any r xs
      go true true e f = e ∙ sym f
      go true false e f = absurd (M.found g e (λ v w. H.same v (omega (arith, g.small, w.high)) ∙ points-apart r xs f v w))
      go false u e f = e ∙ sym (range-apart r g xs a (λ v w. sym (H.same v (omega (arith, g.small, w.high))) ∙ M.free g e v w))

  pub holds-one : t ≡ false → Holds m' (xs ++ (r ∷ []))
  holds-one e = record { long = M.long ∙ H.long; same = same }
    where
      apart : (v : ℕ) → v < 65536 → overlap r (point v) ≡ false → marked m' v ≡ marked m v
          → marked m' v ≡ overlaps_any (point v) (xs ++ (r ∷ []))
      apart v s f k = k ∙ H.same v s ∙ sym (overlaps-any-one (point v) xs r ∙ rw (f, or-none (overlaps_any (point v) xs)))

      inside : (v : ℕ) → v < 65536 → Within v r → marked m' v ≡ overlaps_any (point v) (xs ++ (r ∷ []))
      inside v s w =
          M.wrote g e v w ∙ sym (overlaps-any-one (point v) xs r
          ∙ ap (λ (b : Bool). b || overlap r (point v)) (sym (H.same v s) ∙ M.free g e v w) ∙ of-value r v w)

      same : (v : ℕ) → v < 65536 → marked m' v ≡ overlaps_any (point v) (xs ++ (r ∷ []))
      same v s =
          below_or v r.start (λ b. apart v s (untrue _ (λ y. let w = value_of r v y in omega (arith, w.low))) (M.below g e v b)) (λ l.
          below_or r.end v (λ b. apart v s (untrue _ (λ y. let w = value_of r v y in omega (arith, w.high))) (M.above g e v b)) (λ h.
          inside v s (record { low = l; high = h })))

-- ---- ranges marked one by one
-- the ranges are valid, no two share a value, and just their values are marked
pub record Apart (m : List ℕ) (xs : List KeyRange) : Type 0 where
  pub valid : AllValid xs
  pub apart : any_overlap xs ≡ false
  pub holds : Holds m xs

valid-both : (xs ys : List KeyRange) → AllValid xs → AllValid ys → AllValid (xs ++ ys)
valid-both [] ys AllValid.none h = h
valid-both (x ∷ xs) ys (more f g) h = more f (valid-both xs ys g h)

pub apart_none : Apart (replicate 1024 0) []
unfolding any_overlap
apart_none = record { valid = AllValid.none; apart = refl; holds = holds-none }

module _ {m : List ℕ} {xs : List KeyRange} (A : Apart m xs) {r : KeyRange} (g : Valid r) {t : Bool} {m' : List ℕ} (M : Marking m r t m') where
  one_more : any_overlap (xs ++ (r ∷ [])) ≡ t
  one_more = any-one xs r ∙ rw A.apart (sym (told-one M xs A.holds g A.valid))

  pub apart-found : t ≡ true → (ys : List KeyRange) → any_overlap (xs ++ (r ∷ ys)) ≡ true
  apart-found y ys = ap any_overlap (sym (append_assoc xs (r ∷ []) ys)) ∙ any_append (xs ++ (r ∷ [])) ys ∙ rw (one_more, y)

  pub apart_next : t ≡ false → Apart m' (xs ++ (r ∷ []))
  apart_next y = record {
    valid = valid-both xs (r ∷ []) A.valid (more g AllValid.none);
    apart = one_more ∙ y;
    holds = holds-one M xs A.holds g A.valid y;
  }

-- ---- a row that is being marked
-- what stands past a row's end
abbrev pub none : KeyRange
none = record { start = 0; end = 0 }

-- the first i ranges of the row are marked, and no two share a value
pub record RowTurn (m₀ : List ℕ) (row : List KeyRange) (m : List ℕ) (i : ℕ) : Type 0 where
  pub long : length m ≡ length m₀
  pub apart : (xs : List KeyRange) → Holds m₀ xs → AllValid (xs ++ row) → any_overlap xs ≡ false → any_overlap (xs ++ take i row) ≡ false
  pub holds : (xs : List KeyRange) → Holds m₀ xs → AllValid (xs ++ row) → any_overlap xs ≡ false → Holds m (xs ++ take i row)

pub row-start : (m : List ℕ) (row : List KeyRange) → RowTurn m row m 0
row-start m row = record { long = refl; apart = λ xs h g e. rw (append-nil xs) e; holds = λ xs h g e. rw (append-nil xs) h }

module _ {m₀ : List ℕ} {row : List KeyRange} {m : List ℕ} {i : ℕ} (R : RowTurn m₀ row m i) where
  pub row-end : length row ≤ i → RowMarking m₀ row false m
  row-end h =
      let e : take i row ≡ row = take_all i row h in
      record {
        long = R.long;
        told = λ xs o g a. sym (rw e at (R.apart xs o g a));
        holds = λ xs o g a _. rw e at (R.holds xs o g a);
      }

  module _ (h : i < length row) {t : Bool} {m' : List ℕ} (M : Marking m (get_or row i none) t m') where
    abbrev r : KeyRange
    r = get_or row i none

    -- the range at hand, the ranges before it and those behind it
    split : (xs : List KeyRange) → xs ++ row ≡ (xs ++ take i row) ++ (r ∷ drop (suc i) row)
    split xs =
        ap (λ (l : List KeyRange). xs ++ l) (sym (take-append-drop i row) ∙ ap (λ (l : List KeyRange). take i row ++ l) (drop-cons row i none h))
        ∙ sym (append_assoc xs (take i row) (r ∷ drop (suc i) row))

    joined : (xs : List KeyRange) → (xs ++ take i row) ++ (r ∷ []) ≡ xs ++ take (suc i) row
    joined xs = append_assoc xs (take i row) (r ∷ []) ∙ ap (λ (l : List KeyRange). xs ++ l) (sym (take-suc row i none h))

    module _ (xs : List KeyRange) (o : Holds m₀ xs) (g : AllValid (xs ++ row)) (a : any_overlap xs ≡ false) where
      valids : AllValid ((xs ++ take i row) ++ (r ∷ drop (suc i) row))
      valids = subst AllValid (split xs) g

      here : t ≡ overlaps_any r (xs ++ take i row)
      here =
          told-one M (xs ++ take i row) (R.holds xs o g a) (valid-first (valid-right (xs ++ take i row) _ valids))
          (valid-left (xs ++ take i row) _ valids)

      first : any_overlap ((xs ++ take i row) ++ (r ∷ [])) ≡ t
      first = any-one (xs ++ take i row) r ∙ rw (R.apart xs o g a) (sym here)

      found : t ≡ true → t ≡ any_overlap (xs ++ row)
      found y =
          y ∙ sym (ap any_overlap (split xs ∙ sym (append_assoc (xs ++ take i row) (r ∷ []) (drop (suc i) row)))
          ∙ any_append ((xs ++ take i row) ++ (r ∷ [])) (drop (suc i) row) ∙ rw (first, y))

      next : t ≡ false → Holds m' (xs ++ take (suc i) row)
      next y =
          subst (Holds m') (joined xs) (holds-one M (xs ++ take i row) (R.holds xs o g a) (valid-first (valid-right (xs ++ take i row) _ valids))
          (valid-left (xs ++ take i row) _ valids) y)

    pub row-found : t ≡ true → RowMarking m₀ row t m'
    row-found y = record {
      long = M.long ∙ R.long;
      told = λ xs o g a. found xs o g a y;
      holds = λ xs o g a z. absurd (true≢false (sym y ∙ z));
    }

    pub row_next : t ≡ false → RowTurn m₀ row m' (i + 1)
    row_next y = rw (add-one i) (record {
      long = M.long ∙ R.long;
      apart = λ xs o g a. ap any_overlap (sym (joined xs)) ∙ first xs o g a ∙ y;
      holds = λ xs o g a. next xs o g a y;
    })
