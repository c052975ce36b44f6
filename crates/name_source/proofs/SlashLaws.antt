-- Laws of the last '/' of a text.
--
-- In order: a loop from the end (`no-slash-end`, `no-slash-back`, `last-slash-at`, `no-last-slash`); what `last_slash` tells (`slash-told`,
-- `slash-none`); the bytes before the last '/' (`before-last-inside`, `before-last-take`).
-- Assumes nothing.
use Rattle.std.specs.Prelude.{Some, None}
use Prim.Native.Nat.{ℕ, zero, suc, ◌-◌, ◌≤◌, ◌<◌}
use native.Mathlib.Omega.{arith}
use mathlib.Core.Path.{◌≡◌, refl, sym, ap, ◌∙◌}
use mathlib.Core.Bool.{Bool, true, false, cond, ◌||◌, or-true, true≢false}
use mathlib.Core.List.{List, [], ◌∷◌}
use lib.ListN.{length, take, drop, get_or}
use lib.Seq.{drop-cons, drop-length, length-take-le}
use borrow.Author.Tests.{eq-eqb, ne_eqb}
use Rattle.name_parents.specs.Classes.{class_of, is_slash}
use Rattle.name_source.specs.Parse.{has_slash, before_last, last_slash}
use Rattle.slice.proofs.TestLaws.{cond-first, cond-second}

slash-at : (s : List ℕ) (j : ℕ) → j < length s → has_slash (drop j s) ≡ (is_slash (get_or s j 0) || has_slash (drop (suc j) s))
unfolding has_slash
slash-at s j k = rw (drop-cons s j 0 k)

slash-in : (s : List ℕ) (j : ℕ) → has_slash (drop j s) ≡ true → has_slash s ≡ true
unfolding has_slash
slash-in s zero e = e
slash-in [] (suc j) e = e
slash-in (b ∷ l) (suc j) e = rw (slash-in l j e) (or-true (is_slash b))

pub before-last-at : (s : List ℕ) (j : ℕ) → j < length s → is_slash (get_or s j 0) ≡ true → has_slash (drop (suc j) s) ≡ false
    → (has_slash s ≡ true) × (before_last s ≡ take j s)
unfolding has_slash before_last
before-last-at [] j k e n = absurd (omega arith)
before-last-at (b ∷ l) zero k e n = (rw e, rw n)
before-last-at (b ∷ l) (suc j) k e n =
    let p = before-last-at l j (omega arith) e n in
    (rw p.0 (or-true (is_slash b)), rw (p.0, p.1))

-- ---- a loop from the end

pub no-slash-end : (s : List ℕ) → has_slash (drop (length s) s) ≡ false
unfolding has_slash
no-slash-end s = rw drop-length

module _ (s : List ℕ) (i : ℕ) (p : 0 < i) (k : i ≤ length s) (n : has_slash (drop i s) ≡ false) where
  behind : has_slash (drop (suc (i - 1)) s) ≡ false
  behind = let e : suc (i - 1) ≡ i = omega arith in rw e n

  pub no-slash-back : (class_of (get_or s (i - 1) 0) ≡ 3 → ⊥) → has_slash (drop (i - 1) s) ≡ false
  no-slash-back h = slash-at s (i - 1) (omega arith) ∙ rw (ne_eqb (class_of (get_or s (i - 1) 0)) 3 h) behind

  pub last-slash-at : class_of (get_or s (i - 1) 0) ≡ 3 → last_slash s ≡ Some (i - 1)
  unfolding last_slash
  last-slash-at e =
      let q = before-last-at s (i - 1) (omega arith) (eq-eqb (class_of (get_or s (i - 1) 0)) 3 e) behind in
      rw (q.0, q.1, length-take-le (i - 1) s (omega arith))

pub no-last-slash : (s : List ℕ) → has_slash s ≡ false → last_slash s ≡ None
unfolding last_slash
no-last-slash s e = rw e

-- ---- what `last_slash` tells

nothing-at : {n : ℕ} → None ≡ Some n → ⊥
nothing-at q = let z : ◌≡◌ {A = ℕ} 0 1 = cc in omega arith

pub slash-told : (s : List ℕ) (n : ℕ) → last_slash s ≡ Some n → (has_slash s ≡ true) × (length (before_last s) ≡ n)
unfolding last_slash
slash-told s n e =
    let p = cond-first (has_slash s) (Some (length (before_last s))) None (Some n) nothing-at e in
    let q = p.1 in
    (p.0, cc)

pub slash-none : (s : List ℕ) → last_slash s ≡ None → has_slash s ≡ false
unfolding last_slash
slash-none s e = (cond-second (has_slash s) (Some (length (before_last s))) None None (λ q. nothing-at (sym q)) e).0

-- ---- the bytes before the last '/'

pub before-last-inside : (s : List ℕ) → has_slash s ≡ true → length (before_last s) < length s
unfolding has_slash before_last
before-last-inside [] e = absurd (true≢false (sym e))
before-last-inside (b ∷ l) e = go (has_slash l) (before-last-inside l)
  where
    go : (t : Bool) → (t ≡ true → length (before_last l) < length l) → length (cond t (b ∷ before_last l) []) < suc (length l)
    go true h = omega (arith, h refl)
    go false h = omega arith

pub before-last-take : (s : List ℕ) → take (length (before_last s)) s ≡ before_last s
unfolding before_last
before-last-take [] = refl
before-last-take (b ∷ l) = go (has_slash l) (before-last-take l)
  where
    go : (t : Bool) → take (length (before_last l)) l ≡ before_last l
        → take (length (cond t (b ∷ before_last l) [])) (b ∷ l) ≡ cond t (b ∷ before_last l) []
    go true h = ap (λ (m : List ℕ). b ∷ m) h
    go false h = refl
