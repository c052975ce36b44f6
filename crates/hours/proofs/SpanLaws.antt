-- Laws of spans read where they lie, and of what bytes are as a contract.
--
-- In order: spans at a place (`span-read`, `spans-row`, `span-first`, `span-none`, `span-all`); a walk that asks each
-- (`Turn`, `turn_end`, `turn-first`, `turn-next`); the tests of the first of a row (`ok-first`,
-- `holds-found`, ..); the cases of `shape_of` (`shape-short` to `shape-valid`) and what it says (`Shaped`, `shaped`,
-- `not-shaped`).
-- Assumes nothing.
use Rattle.std.specs.Prelude.{Some, None}
use Rattle.std.proofs.lemmas.Option.{some_pair_parts}
use Prim.Native.Nat.{ℕ, ◌+◌, ◌-◌, ◌*◌, ◌%◌, ◌≤◌, ◌<◌, min, max}
use native.Mathlib.Omega.{arith}
use mathlib.Core.Path.{◌≡◌, refl, sym, ap, ◌∙◌}
use mathlib.Core.Bool.{Bool, true, false, ◌||◌, and-false}
use mathlib.Core.List.{List, [], ◌∷◌}
use lib.ListN.{length, drop}
use lib.Seq.{drop-drop}
use lib.Dec.{leb, ltb, eqb}
use borrow.Author.Tests.{le-leb, lt-leb, leb-true, lt-ltb, le-ltb, ltb-true, eq-eqb, ne_eqb, eqb-true}
use Rattle.slice.specs.BoolLaws.{both_true}
use Rattle.slice.proofs.TestLaws.{cond-first, cond-second}
use Rattle.slice_int.specs.Be.{be_at}
pub use Rattle.slice_int.proofs.RowLaws.{Row, row-none, row_at}
use Rattle.hours.specs.declared.Span.{Span}
use Rattle.hours.specs.Contract.{week, largest, span_of, spans_of, term_count, window_count, terms_of, windows_of}
use Rattle.hours.specs.Contract.{ok_spans, is_contract}
use Rattle.hours.specs.Hours.{holds, any_holds}
use Rattle.hours.specs.Steps.{shape_of, wait_for, least_wait, first_from, first_in, first_of}

-- ---- spans at a place

pub span-read : (s : List ℕ) (at a b : ℕ) → a ≡ be_at 8 s at → b ≡ be_at 8 s (at + 8)
    → record { start = a; end = b } ≡ span_of (drop at s)
unfolding span_of be_at
span-read s at a b ea eb = cc (drop-drop 8 at s)

pub spans-row : Row (λ l. 16) span_of spans_of
unfolding spans_of
spans-row = record { none = λ l. refl; more = λ n l. refl }

-- the i-th of n, and those behind it
pub span-first : (s : List ℕ) (at n i : ℕ) (x : Span) → i < n → x ≡ span_of (drop (at + 16 * i) s)
    → spans_of (n - i) (drop (at + 16 * i) s) ≡ x ∷ spans_of (n - (i + 1)) (drop (at + 16 * (i + 1)) s)
span-first s at n i x h e =
    let p : at + 16 * i + 16 ≡ at + 16 * (i + 1) = omega arith in
    let q : n - i - 1 ≡ n - (i + 1) = omega arith in
    row_at spans-row s (at + 16 * i) (n - i) x 16 (omega arith) e refl
    ∙ ap (λ (k : ℕ). x ∷ spans_of k (drop (at + 16 * i + 16) s)) q
    ∙ ap (λ (k : ℕ). x ∷ spans_of (n - (i + 1)) (drop k s)) p

pub span-none : (s : List ℕ) (at n i : ℕ) → n ≤ i → spans_of (n - i) (drop (at + 16 * i) s) ≡ []
span-none s at n i h = row-none spans-row (n - i) (drop (at + 16 * i) s) (omega arith)

pub span-all : (s : List ℕ) (at n : ℕ) → spans_of n (drop at s) ≡ spans_of (n - 0) (drop (at + 16 * 0) s)
span-all s at n =
    let p : at ≡ at + 16 * 0 = omega arith in
    let q : n ≡ n - 0 = omega arith in
    ap (λ (k : ℕ). spans_of n (drop k s)) p ∙ ap (λ (k : ℕ). spans_of k (drop (at + 16 * 0) s)) q

-- ---- a walk over a row: the spans that are left, from the i-th on, decide what f says of them all

pub record Turn (f : List Span → Bool) (s : List ℕ) (at n i : ℕ) : Type 0 where
  pub decides : f (spans_of n (drop at s)) ≡ f (spans_of (n - i) (drop (at + 16 * i) s))

module _ {f : List Span → Bool} {s : List ℕ} {at n i : ℕ} (v : Turn f s at n i) where
  pub turn_end : n ≤ i → f [] ≡ f (spans_of n (drop at s))
  turn_end h = sym (v.decides ∙ ap f (span-none s at n i h))

  module _ (x : Span) (h : i < n) (e : x ≡ span_of (drop (at + 16 * i) s)) where
    abbrev xs : List Span
    xs = spans_of (n - (i + 1)) (drop (at + 16 * (i + 1)) s)

    pub turn-first : f (x ∷ xs) ≡ f (spans_of n (drop at s))
    turn-first = sym (v.decides ∙ ap f (span-first s at n i x h e))

    pub turn-next : f (x ∷ xs) ≡ f xs → Turn f s at n (i + 1)
    turn-next g = record { decides = sym turn-first ∙ g }

-- ---- a row by its first span

-- a span that ends after its start, and by the limit
pub record Fine (limit : ℕ) (x : Span) : Type 0 where
  pub rises : x.start < x.end
  pub within : x.end ≤ limit

module _ (limit : ℕ) (x : Span) (xs : List Span) where
  pub ok-first : ok_spans limit (x ∷ xs) ≡ true → Fine limit x × (ok_spans limit xs ≡ true)
  unfolding ok_spans
  ok-first e =
      let a = both_true (ltb x.start x.end) _ e in
      let b = both_true (leb x.end limit) _ a.1 in
      (record { rises = ltb-true x.start x.end a.0; within = leb-true x.end limit b.0 }, b.1)

  pub ok-reversed : x.end ≤ x.start → ok_spans limit (x ∷ xs) ≡ false
  unfolding ok_spans
  ok-reversed h = simp (le-ltb x.start x.end h)

  pub ok-beyond : limit < x.end → ok_spans limit (x ∷ xs) ≡ false
  unfolding ok_spans
  ok-beyond h = simp (lt-leb x.end limit h, and-false)

  pub ok-pass : x.start < x.end → x.end ≤ limit → ok_spans limit (x ∷ xs) ≡ ok_spans limit xs
  unfolding ok_spans
  ok-pass h k = simp (lt-ltb x.start x.end h, le-leb x.end limit k)

pub ok-none : (limit : ℕ) → ok_spans limit [] ≡ true
unfolding ok_spans
ok-none limit = refl

module _ (x : Span) (xs : List Span) (t : ℕ) where
  pub holds-found : holds x t ≡ true → any_holds (x ∷ xs) t ≡ true
  unfolding any_holds
  holds-found e = ap (λ (b : Bool). b || any_holds xs t) e

  pub holds-further : holds x t ≡ false → any_holds (x ∷ xs) t ≡ any_holds xs t
  unfolding any_holds
  holds-further e = ap (λ (b : Bool). b || any_holds xs t) e

  pub wait-first : least_wait (x ∷ xs) t ≡ min (wait_for x t) (least_wait xs t)
  unfolding least_wait
  wait-first = refl

  pub of-first : (ws : List Span) → first_of (x ∷ xs) ws t ≡ min (first_in x ws t) (first_of xs ws t)
  unfolding first_of
  of-first ws = refl

pub holds-none : (t : ℕ) → any_holds [] t ≡ false
unfolding any_holds
holds-none t = refl

pub wait-none : (t : ℕ) → least_wait [] t ≡ largest
unfolding least_wait
wait-none t = refl

pub of_none : (ws : List Span) (t : ℕ) → first_of [] ws t ≡ largest
unfolding first_of
of_none ws t = refl

pub least-largest : (xs : List Span) (t : ℕ) → min largest (least_wait xs t) ≡ least_wait xs t
unfolding least_wait
least-largest [] t = refl
least-largest (x ∷ xs) t = let e : min largest (least_wait xs t) ≡ least_wait xs t = least-largest xs t in omega arith

pub first-largest : (xs ws : List Span) (t : ℕ) → min largest (first_of xs ws t) ≡ first_of xs ws t
unfolding first_of
first-largest [] ws t = refl
first-largest (x ∷ xs) ws t =
    let e : min largest (first_of xs ws t) ≡ first_of xs ws t = first-largest xs ws t in omega arith

-- ---- the cases of `wait_for` and `first_in`

module _ (x : Span) (t : ℕ) where
  pub wait-there : x.start ≤ t → t < x.end → 0 ≡ wait_for x t
  unfolding wait_for
  wait-there h k = simp (le-leb x.start t h, lt-ltb t x.end k)

  pub wait-week : x.start ≤ t → x.end ≤ t → 604800 - t + x.start ≡ wait_for x t
  unfolding wait_for
  wait-week h k = simp (le-leb x.start t h, le-ltb t x.end k)

  pub wait-soon : t < x.start → x.start - t ≡ wait_for x t
  unfolding wait_for
  wait-soon h = simp (lt-leb x.start t h)

module _ (low end : ℕ) (ws : List Span) where
  pub first-late : end ≤ low → largest ≡ first_from low end ws
  unfolding first_from
  first-late h = simp (le-ltb low end h)

  module _ (h : low < end) (d : ℕ) (e : d ≡ least_wait ws (low % 604800)) where
    pub first-there : d < end - low → low + d ≡ first_from low end ws
    unfolding first_from
    first-there k = simp (lt-ltb low end h, ← e, lt-ltb d (end - low) k)

    pub first-not : end - low ≤ d → largest ≡ first_from low end ws
    unfolding first_from
    first-not k = simp (lt-ltb low end h, ← e, le-ltb d (end - low) k)

pub first-in : (x : Span) (ws : List Span) (t low : ℕ) → low ≡ max x.start t
    → first_from low x.end ws ≡ first_in x ws t
unfolding first_in
first-in x ws t low e = ap (λ (k : ℕ). first_from k x.end ws) e

-- ---- bytes as a contract

module _ (l : List ℕ) where
  not-contract : is_contract l ≡ false → None ≡ shape_of l
  unfolding shape_of
  not-contract e = rw e

  sizes-differ : (4 + 16 * (term_count l + window_count l) ≡ length l → ⊥) → is_contract l ≡ false
  unfolding is_contract
  sizes-differ h = simp (ne_eqb (4 + 16 * (term_count l + window_count l)) (length l) h, and-false)

  pub shape-short : length l < 4 → None ≡ shape_of l
  shape-short h = not-contract (sizes-differ (λ e. omega arith))

  module _ (m n : ℕ) (em : m ≡ be_at 2 l 0) (en : n ≡ be_at 2 l 2) where
    terms-are : term_count l ≡ m
    unfolding term_count
    terms-are = sym em

    windows-are : window_count l ≡ n
    unfolding window_count
    windows-are = sym en

    pub shape-terms : 64 < m → None ≡ shape_of l
    unfolding is_contract
    shape-terms h = not-contract (simp (terms-are, lt-leb m 64 h))

    pub shape-windows : 28 < n → None ≡ shape_of l
    unfolding is_contract
    shape-windows h = not-contract (simp (windows-are, lt-leb n 28 h, and-false))

    size_is : 4 + 16 * (term_count l + window_count l) ≡ 4 + 16 * (m + n)
    size_is =
        ap (λ (k : ℕ). 4 + 16 * (k + window_count l)) terms-are ∙ ap (λ (k : ℕ). 4 + 16 * (m + k)) windows-are

    pub shape-length : (length l ≡ 4 + 16 * (m + n) → ⊥) → None ≡ shape_of l
    shape-length h = not-contract (sizes-differ (λ e. h (sym e ∙ size_is)))

    term-spans : terms_of l ≡ spans_of m (drop 4 l)
    unfolding terms_of
    term-spans = ap (λ (k : ℕ). spans_of k (drop 4 l)) terms-are

    window-spans : windows_of l ≡ spans_of n (drop (4 + 16 * m) l)
    unfolding windows_of
    window-spans =
        ap (λ (k : ℕ). spans_of k (drop (4 + 16 * term_count l) l)) windows-are
        ∙ ap (λ (k : ℕ). spans_of n (drop (4 + 16 * k) l)) terms-are

    pub shape-bad-term : (b : Bool) → b ≡ ok_spans largest (spans_of m (drop 4 l)) → b ≡ false → None ≡ shape_of l
    unfolding is_contract
    shape-bad-term b e f = not-contract (simp (term-spans, ← e, f, and-false))

    pub shape-bad-window : (b : Bool) → b ≡ ok_spans week (spans_of n (drop (4 + 16 * m) l)) → b ≡ false
        → None ≡ shape_of l
    unfolding is_contract
    shape-bad-window b e f = not-contract (simp (window-spans, ← e, f, and-false))

    pub shape-valid : m ≤ 64 → n ≤ 28 → length l ≡ 4 + 16 * (m + n)
        → (b : Bool) → b ≡ ok_spans largest (spans_of m (drop 4 l)) → b ≡ true
        → (c : Bool) → c ≡ ok_spans week (spans_of n (drop (4 + 16 * m) l)) → c ≡ true
        → Some (m, n) ≡ shape_of l
    unfolding shape_of is_contract
    shape-valid hm hn hl b eb fb c ec fc =
        let len = eq-eqb (4 + 16 * (m + n)) (length l) (sym hl) in
        simp (term-spans, window-spans, terms-are, windows-are, le-leb m 64 hm, le-leb n 28 hn, len, ← eb, fb, ← ec, fc)

-- what the counts say
pub record Shaped (l : List ℕ) (m n : ℕ) : Type 0 where
  pub valid : is_contract l ≡ true
  pub terms-are : terms_of l ≡ spans_of m (drop 4 l)
  pub windows-are : windows_of l ≡ spans_of n (drop (4 + 16 * m) l)
  pub inside : 4 + 16 * (m + n) ≤ length l
  pub terms-ok : ok_spans largest (spans_of m (drop 4 l)) ≡ true
  pub windows-ok : ok_spans week (spans_of n (drop (4 + 16 * m) l)) ≡ true

valid-shaped : (l : List ℕ) → is_contract l ≡ true → Shaped l (term_count l) (window_count l)
unfolding is_contract terms_of windows_of
valid-shaped l h =
    let a = both_true (leb (term_count l) 64) _ h in
    let b = both_true (leb (window_count l) 28) _ a.1 in
    let c = both_true (eqb (4 + 16 * (term_count l + window_count l)) (length l)) _ b.1 in
    let d = both_true (ok_spans largest (terms_of l)) _ c.1 in
    let e : 4 + 16 * (term_count l + window_count l) ≡ length l = eqb-true _ _ c.0 in
    record { valid = h; terms-are = refl; windows-are = refl; inside = omega arith; terms-ok = d.0; windows-ok = d.1 }

pub shaped : (l : List ℕ) (m n : ℕ) → Some (m, n) ≡ shape_of l → Shaped l m n
unfolding shape_of
shaped l m n e =
    let p = cond-first (is_contract l) _ _ _ (λ q. let o : ◌≡◌ {A = ℕ} 0 1 = cc in omega arith) (sym e) in
    let f = some_pair_parts (term_count l) m (window_count l) n p.1 in
    rw f.0 at (rw f.1 at (valid-shaped l p.0))

pub not-shaped : (l : List ℕ) → None ≡ shape_of l → is_contract l ≡ false
unfolding shape_of
not-shaped l e = (cond-second (is_contract l) _ _ _ (λ q. let o : ◌≡◌ {A = ℕ} 0 1 = cc in omega arith) (sym e)).0
