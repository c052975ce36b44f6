-- The first second that the program finds is the earliest open one.
--
-- In order: one window (`wait-in`, `wait-least`), some windows (`Waits-in`, `waits-least`), one term (`First`,
-- `first-term`), some terms (`first-terms`); the answers (`open_told`, `open-not`, `earliest-at`, `earliest-none`),
-- and that no two answers meet `Earliest` (`earliest-one`).
-- Assumes nothing.
use Rattle.std.specs.Prelude.{Option, Some, None, Result, Ok, Err}
use Prim.Native.Nat.{ℕ, ◌+◌, ◌-◌, ◌*◌, ◌%◌, ◌≤◌, ◌<◌, min, max}
use native.Mathlib.Omega.{arith}
use mathlib.Core.Path.{◌≡◌, refl, sym, ap, ◌∙◌, subst}
use mathlib.Core.Logic.{◌⊎◌, inl, inr}
use mathlib.Core.Bool.{Bool, true, false, ◌&&◌}
use mathlib.Core.List.{List, [], ◌∷◌}
use lib.ListN.{drop}
use lib.Dec.{leb, ltb}
use borrow.Author.Tests.{le-leb, leb-true, leb-false, lt-ltb, ltb-true, ltb-false}
use Rattle.slice.specs.BoolLaws.{both_true}
use Rattle.refusal.specs.declared.Refusal.TheVariants.{InvalidContract}
use Rattle.hours.specs.declared.Span.{Span}
use Rattle.hours.specs.Contract.{largest, spans_of, windows_of, ok_spans, is_contract}
use Rattle.hours.specs.Hours.{holds, any_holds, open_in, is_open_at, open_answer, Earliest}
use Rattle.hours.specs.Steps.{wait_for, least_wait, first_from, first_in, first_of}
use Rattle.hours.proofs.SpanLaws.{Fine, ok-first, holds-found, holds-further, holds-none, wait-first, of-first}
use Rattle.hours.proofs.SpanLaws.{wait-none, of_none}
use Rattle.hours.proofs.SpanLaws.{wait-there, wait-week, wait-soon, first-late, first-there, first-not, first-in}
use Rattle.hours.proofs.SpanLaws.{Shaped}
use Rattle.refusal.specs.declared.Refusal.{Refusal}

-- ---- what `holds` says

pub record Inside (x : Span) (t : ℕ) : Type 0 where
  pub from_start : x.start ≤ t
  pub before-end : t < x.end

module _ (x : Span) (t : ℕ) where
  pub inside : holds x t ≡ true → Inside x t
  inside e =
      let b = both_true (leb x.start t) _ e in
      record { from_start = leb-true x.start t b.0; before-end = ltb-true t x.end b.1 }

  pub holds-inside : Inside x t → holds x t ≡ true
  holds-inside i = rw (le-leb x.start t i.from_start, lt-ltb t x.end i.before-end)

-- ---- one window

module _ (x : Span) (f : Fine 604800 x) (low : ℕ) where
  -- by the moment of the week at which low lies
  record Waits (d : ℕ) : Type 0 where
    lands : Inside x ((low + d) % 604800)
    soonest : (s : ℕ) → low ≤ s → Inside x (s % 604800) → low + d ≤ s

  waits : Waits (wait_for x (low % 604800))
  waits = go (leb x.start (low % 604800)) (ltb (low % 604800) x.end) refl refl
    where
      go : (t u : Bool) → leb x.start (low % 604800) ≡ t → ltb (low % 604800) x.end ≡ u
          → Waits (wait_for x (low % 604800))
      go true true et eu =
          let h : x.start ≤ low % 604800 = leb-true _ _ et in
          let k : low % 604800 < x.end = ltb-true _ _ eu in
          subst Waits (wait-there x (low % 604800) h k)
          (record {
            lands = record { from_start = omega arith; before-end = omega arith };
            soonest = λ s g i. omega arith;
          })
      go true false et eu =
          let h : x.start ≤ low % 604800 = leb-true _ _ et in
          let k : x.end ≤ low % 604800 = ltb-false _ _ eu in
          subst Waits (wait-week x (low % 604800) h k)
          (record {
            lands = record {
              from_start = omega (arith, f.rises, f.within);
              before-end = omega (arith, f.rises, f.within);
            };
            soonest = λ s g i. omega (arith, i.before-end, i.from_start, f.rises, f.within);
          })
      go false u et eu =
          let h : low % 604800 < x.start = leb-false _ _ et in
          subst Waits (wait-soon x (low % 604800) h)
          (record {
            lands = record {
              from_start = omega (arith, f.rises, f.within);
              before-end = omega (arith, f.rises, f.within);
            };
            soonest = λ s g i. omega (arith, i.before-end, i.from_start, f.rises, f.within);
          })

-- ---- some windows

record AllWait (low : ℕ) (ws : List Span) (d : ℕ) : Type 0 where
  lands : d < largest → any_holds ws ((low + d) % 604800) ≡ true
  soonest : (s : ℕ) → low ≤ s → any_holds ws (s % 604800) ≡ true → low + d ≤ s

not-both : {b : Bool} → b ≡ true → b ≡ false → ⊥
not-both {b} e f = let z : ◌≡◌ {A = Bool} true false = sym e ∙ f in let y : ◌≡◌ {A = ℕ} 0 1 = cc in omega arith

module _ (low : ℕ) (x : Span) (ws : List Span) (f : Fine 604800 x)
    (r : AllWait low ws (least_wait ws (low % 604800))) where
  abbrev mine : ℕ
  mine = wait_for x (low % 604800)

  abbrev theirs : ℕ
  theirs = least_wait ws (low % 604800)

  further : (s : ℕ) → low ≤ s → (t : Bool) → holds x (s % 604800) ≡ t → any_holds (x ∷ ws) (s % 604800) ≡ true
      → low + min mine theirs ≤ s
  further s g true h i = let k : low + mine ≤ s = (waits x f low).soonest s g (inside x (s % 604800) h) in omega arith
  further s g false h i = let k : low + theirs ≤ s = r.soonest s g (sym (holds-further x ws (s % 604800) h) ∙ i) in
      omega arith

  others : (u : ℕ) (t : Bool) → holds x u ≡ t → any_holds ws u ≡ true → any_holds (x ∷ ws) u ≡ true
  others u true h i = holds-found x ws u h
  others u false h i = holds-further x ws u h ∙ i

  landed : (t : Bool) → leb mine theirs ≡ t → min mine theirs < largest
      → any_holds (x ∷ ws) ((low + min mine theirs) % 604800) ≡ true
  landed true h k =
      let n : mine ≤ theirs = leb-true mine theirs h in
      let q : min mine theirs ≡ mine = omega arith in
      let v = holds-found x ws ((low + mine) % 604800)
      (holds-inside x ((low + mine) % 604800) (waits x f low).lands) in
      subst (λ (d : ℕ). any_holds (x ∷ ws) ((low + d) % 604800) ≡ true) (sym q) v
  landed false h k =
      let n : theirs < mine = leb-false mine theirs h in
      let q : min mine theirs ≡ theirs = omega arith in
      let v = others ((low + theirs) % 604800) (holds x ((low + theirs) % 604800)) refl (r.lands (omega arith)) in
      subst (λ (d : ℕ). any_holds (x ∷ ws) ((low + d) % 604800) ≡ true) (sym q) v

  one_more : AllWait low (x ∷ ws) (least_wait (x ∷ ws) (low % 604800))
  one_more =
      subst (AllWait low (x ∷ ws)) (sym (wait-first x ws (low % 604800)))
      (record { lands = landed (leb mine theirs) refl; soonest = λ s g i. further s g (holds x (s % 604800)) refl i })

all-wait : (low : ℕ) (ws : List Span) → ok_spans 604800 ws ≡ true → AllWait low ws (least_wait ws (low % 604800))
all-wait low [] e =
    subst (AllWait low []) (sym (wait-none (low % 604800)))
    (record { lands = λ h. absurd (omega arith); soonest = λ s g i. absurd (not-both i (holds-none (s % 604800))) })
all-wait low (x ∷ ws) e = one_more low x ws (ok-first 604800 x ws e).0 (all-wait low ws (ok-first 604800 x ws e).1)

-- ---- one term

-- b is the first second of the term, from t on, that is in a window; it is `largest` where there is none
record FirstIn (x : Span) (ws : List Span) (t b : ℕ) : Type 0 where
  in-term : b < largest → Inside x b
  in_window : b < largest → any_holds ws (b % 604800) ≡ true
  not-before : b < largest → t ≤ b
  least : (s : ℕ) → t ≤ s → Inside x s → any_holds ws (s % 604800) ≡ true → b ≤ s

module _ (x : Span) (ws : List Span) (t : ℕ) (f : Fine largest x) (ok : ok_spans 604800 ws ≡ true) where
  abbrev low : ℕ
  low = max x.start t

  abbrev wait : ℕ
  wait = least_wait ws (low % 604800)

  none : ((s : ℕ) → t ≤ s → Inside x s → any_holds ws (s % 604800) ≡ true → ⊥) → FirstIn x ws t largest
  none h =
      record {
        in-term = λ k. absurd (omega arith);
        in_window = λ k. absurd (omega arith);
        not-before = λ k. absurd (omega arith);
        least = λ s g i j. absurd (h s g i j);
      }

  found : low < x.end → wait < x.end - low → FirstIn x ws t (low + wait)
  found h k =
      let a = all-wait low ws ok in
      let e : x.end ≤ largest = f.within in
      record {
        in-term = λ b. record { from_start = omega arith; before-end = omega arith };
        in_window = λ b. a.lands (omega arith);
        not-before = λ b. omega arith;
        least = λ s g i j. a.soonest s (omega (arith, i.from_start)) j;
      }

  first-term : FirstIn x ws t (first_in x ws t)
  first-term = subst (FirstIn x ws t) (first-in x ws t low refl)
      (go (ltb low x.end) (ltb wait (x.end - low)) refl refl)
    where
      go : (p q : Bool) → ltb low x.end ≡ p → ltb wait (x.end - low) ≡ q
          → FirstIn x ws t (first_from low x.end ws)
      go false q ep eq =
          let h : x.end ≤ low = ltb-false low x.end ep in
          subst (FirstIn x ws t) (first-late low x.end ws h)
          (none (λ s g i j. omega (arith, i.from_start, i.before-end)))
      go true true ep eq =
          let h : low < x.end = ltb-true low x.end ep in
          let k : wait < x.end - low = ltb-true wait (x.end - low) eq in
          subst (FirstIn x ws t) (first-there low x.end ws h wait refl k) (found h k)
      go true false ep eq =
          let h : low < x.end = ltb-true low x.end ep in
          let k : x.end - low ≤ wait = ltb-false wait (x.end - low) eq in
          subst (FirstIn x ws t) (first-not low x.end ws h wait refl k)
          (none
          (λ s g i j. omega (arith, i.before-end, (all-wait low ws ok).soonest s (omega (arith, i.from_start)) j)))

-- ---- some terms

record FirstOf (xs ws : List Span) (t b : ℕ) : Type 0 where
  is_open : b < largest → open_in xs ws b ≡ true
  not-before : b < largest → t ≤ b
  least : (s : ℕ) → t ≤ s → open_in xs ws s ≡ true → b ≤ s

module _ (ws : List Span) (x : Span) (xs : List Span) (u : ℕ) where
  open-mine : Inside x u → any_holds ws (u % 604800) ≡ true → open_in (x ∷ xs) ws u ≡ true
  unfolding open_in
  open-mine i j = simp (holds-found x xs u (holds-inside x u i), j)

  open-theirs : open_in xs ws u ≡ true → open_in (x ∷ xs) ws u ≡ true
  unfolding open_in
  open-theirs j = go (holds x u) refl
    where
      go : (t : Bool) → holds x u ≡ t → (any_holds (x ∷ xs) u && any_holds ws (u % 604800)) ≡ true
      go true h = simp (holds-found x xs u h, (both_true (any_holds xs u) _ j).1)
      go false h = simp (holds-further x xs u h, (both_true (any_holds xs u) _ j).0, (both_true (any_holds xs u) _ j).1)

  -- whose it is
  open-whose : open_in (x ∷ xs) ws u ≡ true → (Inside x u × (any_holds ws (u % 604800) ≡ true)) ⊎ (open_in xs ws u ≡ true)
  unfolding open_in
  open-whose j = go (holds x u) refl
    where
      go : (t : Bool) → holds x u ≡ t
          → (Inside x u × (any_holds ws (u % 604800) ≡ true)) ⊎ ((any_holds xs u && any_holds ws (u % 604800)) ≡ true)
      go true h = inl (inside x u h, (both_true (any_holds (x ∷ xs) u) _ j).1)
      go false h = inr (simp (holds-further x xs u h) at j)

module _ (ws : List Span) (t : ℕ) (x : Span) (xs : List Span) (p : FirstIn x ws t (first_in x ws t))
    (q : FirstOf xs ws t (first_of xs ws t)) where
  abbrev one : ℕ
  one = first_in x ws t

  abbrev rest : ℕ
  rest = first_of xs ws t

  opened : (b : Bool) → leb one rest ≡ b → min one rest < largest → open_in (x ∷ xs) ws (min one rest) ≡ true
  opened true h k =
      let n : one ≤ rest = leb-true one rest h in
      let e : min one rest ≡ one = omega arith in
      let j : one < largest = omega arith in
      subst (λ (b : ℕ). open_in (x ∷ xs) ws b ≡ true) (sym e) (open-mine ws x xs one (p.in-term j) (p.in_window j))
  opened false h k =
      let n : rest < one = leb-false one rest h in
      let e : min one rest ≡ rest = omega arith in
      subst (λ (b : ℕ). open_in (x ∷ xs) ws b ≡ true) (sym e) (open-theirs ws x xs rest (q.is_open (omega arith)))

  after : (b : Bool) → leb one rest ≡ b → min one rest < largest → t ≤ min one rest
  after true h k =
      let n : one ≤ rest = leb-true one rest h in
      let j : t ≤ one = p.not-before (omega arith) in omega arith
  after false h k =
      let n : rest < one = leb-false one rest h in
      let j : t ≤ rest = q.not-before (omega arith) in omega arith

  earliest-of : (s : ℕ) → t ≤ s → (Inside x s × (any_holds ws (s % 604800) ≡ true)) ⊎ (open_in xs ws s ≡ true)
      → min one rest ≤ s
  earliest-of s g (inl i) = let j : one ≤ s = p.least s g i.0 i.1 in omega arith
  earliest-of s g (inr i) = let j : rest ≤ s = q.least s g i in omega arith

  term-more : FirstOf (x ∷ xs) ws t (first_of (x ∷ xs) ws t)
  term-more =
      subst (FirstOf (x ∷ xs) ws t) (sym (of-first x xs t ws))
      (record {
        is_open = opened (leb one rest) refl;
        not-before = after (leb one rest) refl;
        least = λ s g j. earliest-of s g (open-whose ws x xs s j);
      })

module _ (ws : List Span) (t : ℕ) (ok : ok_spans 604800 ws ≡ true) where
  first-terms : (xs : List Span) → ok_spans largest xs ≡ true → FirstOf xs ws t (first_of xs ws t)
  unfolding open_in any_holds
  first-terms [] e =
      subst (FirstOf [] ws t) (sym (of_none ws t))
      (record {
        is_open = λ k. absurd (omega arith);
        not-before = λ k. absurd (omega arith);
        least = λ s g j. absurd (not-both j refl);
      })
  first-terms (x ∷ xs) e =
      term-more ws t x xs (first-term x ws t (ok-first largest x xs e).0 ok)
      (first-terms xs (ok-first largest x xs e).1)

-- no term holds so late a second
never-largest : (xs : List Span) → ok_spans largest xs ≡ true → (u : ℕ) → any_holds xs u ≡ true → u < largest
never-largest [] e u h = absurd (not-both h (holds-none u))
never-largest (x ∷ xs) e u h = go (holds x u) refl (never-largest xs (ok-first largest x xs e).1 u)
  where
    go : (t : Bool) → holds x u ≡ t → (any_holds xs u ≡ true → u < largest) → u < largest
    go true k r = omega (arith, (inside x u k).before-end, (ok-first largest x xs e).0.within)
    go false k r = r (sym (holds-further x xs u k) ∙ h)

-- ---- the answers

module _ (l : List ℕ) (t m n : ℕ) (h : Shaped l m n) where
  opens-are : (u : ℕ) → is_open_at l u ≡ open_in (spans_of m (drop 4 l)) (spans_of n (drop (4 + 16 * m) l)) u
  unfolding is_open_at
  opens-are u = ap (λ (xs : List Span). open_in xs (windows_of l) u) h.terms-are
      ∙ ap (λ (ws : List Span). open_in (spans_of m (drop 4 l)) ws u) h.windows-are

  pub open-windows : any_holds (spans_of m (drop 4 l)) t ≡ true
      → (b : Bool) → b ≡ any_holds (spans_of n (drop (4 + 16 * m) l)) (t % 604800) → Ok b ≡ open_answer l t
  unfolding open_answer open_in
  open-windows e b f = simp (h.valid, opens-are t, e, ← f)

  pub open-terms : any_holds (spans_of m (drop 4 l)) t ≡ false → Ok false ≡ open_answer l t
  unfolding open_answer open_in
  open-terms e = simp (h.valid, opens-are t, e)

  firsts : FirstOf (spans_of m (drop 4 l)) (spans_of n (drop (4 + 16 * m) l)) t
      (first_of (spans_of m (drop 4 l)) (spans_of n (drop (4 + 16 * m) l)) t)
  firsts = first-terms (spans_of n (drop (4 + 16 * m) l)) t h.windows-ok (spans_of m (drop 4 l)) h.terms-ok

  module _ (b : ℕ) (e : b ≡ first_of (spans_of m (drop 4 l)) (spans_of n (drop (4 + 16 * m) l)) t) where
    first-b : FirstOf (spans_of m (drop 4 l)) (spans_of n (drop (4 + 16 * m) l)) t b
    first-b = subst (FirstOf (spans_of m (drop 4 l)) (spans_of n (drop (4 + 16 * m) l)) t) (sym e) firsts

    pub earliest-at : b < largest → Earliest l t (Ok (Some b))
    unfolding Earliest
    earliest-at k = (
      h.valid,
      record {
        is_open = opens-are b ∙ first-b.is_open k;
        not-before = first-b.not-before k;
        least = λ u g i. first-b.least u g (sym (opens-are u) ∙ i);
      },
    )

    pub earliest-none : b ≡ largest → Earliest l t (Ok None)
    unfolding Earliest open_in
    earliest-none k = (
      h.valid,
      λ u g i.
          let j : open_in (spans_of m (drop 4 l)) (spans_of n (drop (4 + 16 * m) l)) u ≡ true = sym (opens-are u) ∙ i in
          let held = (both_true (any_holds (spans_of m (drop 4 l)) u) _ j).0 in
          omega (arith, first-b.least u g j, never-largest (spans_of m (drop 4 l)) h.terms-ok u held),
    )

module _ (l : List ℕ) (t : ℕ) (e : is_contract l ≡ false) where
  pub open-not : Err InvalidContract ≡ open_answer l t
  unfolding open_answer
  open-not = simp e

  pub earliest-not : Earliest l t (Err InvalidContract)
  unfolding Earliest
  earliest-not = (e, refl)

-- no two answers meet `Earliest`
pub earliest-one : (l : List ℕ) (t : ℕ) (x y : Result (Option ℕ) Refusal) → Earliest l t x → Earliest l t y → x ≡ y
unfolding Earliest
earliest-one l t (Err a) (Err b) p q = ap Err (p.1 ∙ sym q.1)
earliest-one l t (Err a) (Ok (Some s)) p q = absurd (not-both q.0 p.0)
earliest-one l t (Err a) (Ok None) p q = absurd (not-both q.0 p.0)
earliest-one l t (Ok (Some s)) (Err b) p q = absurd (not-both p.0 q.0)
earliest-one l t (Ok (Some s)) (Ok (Some u)) p q =
    let e : s ≡ u =
    omega (arith, p.1.least u q.1.not-before q.1.is_open, q.1.least s p.1.not-before p.1.is_open) in
    ap (λ (k : ℕ). Ok (Some k)) e
earliest-one l t (Ok (Some s)) (Ok None) p q = absurd (q.1 s p.1.not-before p.1.is_open)
earliest-one l t (Ok None) (Err b) p q = absurd (not-both p.0 q.0)
earliest-one l t (Ok None) (Ok (Some u)) p q = absurd (p.1 u q.1.not-before q.1.is_open)
earliest-one l t (Ok None) (Ok None) p q = refl
