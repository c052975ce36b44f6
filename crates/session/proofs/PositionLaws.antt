-- The readers' positions: at the start (`start-zero`), within a queue (`Within`: `within-start`, `within_more`, `within-moved`, `none-beyond`), the first of them
-- tested (`none_upto`, `some-beyond`, `none_within`), and one of them moved (`moved-own`, `moved_other`).
-- Assumes nothing.
use Prim.Native.Nat.{ℕ, zero, suc, ◌≤◌, ◌<◌}
use native.Mathlib.Omega.{arith}
use mathlib.Core.Path.{◌≡◌, refl, ap}
use mathlib.Core.Logic.{◌≢◌}
use mathlib.Core.Bool.{Bool, true, false, ◌||◌, true≢false}
use mathlib.Core.List.{List, [], ◌∷◌}
use lib.ListN.{length, get_or, set, replicate}
use lib.Dec.{ltb, eqb}
use borrow.Author.Tests.{le-ltb, ltb-false, eqb-true, eqb-false}
use Rattle.session.specs.Session.{at_start, any_beyond}

zeros : (n k : ℕ) → ◌≡◌ {A = ℕ} (get_or (replicate n 0) k 0) 0
zeros zero k = refl
zeros (suc n) zero = refl
zeros (suc n) (suc k) = zeros n k

pub start-zero : (k : ℕ) → ◌≡◌ {A = ℕ} (get_or at_start k 0) 0
start-zero k = zeros 8 k

-- ---- no position is beyond a queue of so many

abbrev pub Within : ℕ → List ℕ → Type 0
Within count ps = (k : ℕ) → get_or ps k 0 ≤ count

pub within-start : (count : ℕ) → Within count at_start
within-start count k = omega (arith, start-zero k)

pub within_more : (m n : ℕ) (ps : List ℕ) → m ≤ n → Within m ps → Within n ps
within_more m n ps h w k = omega (arith, w k)

pub within-moved : (count v : ℕ) (ps : List ℕ) (j : ℕ) → v ≤ count → Within count ps → Within count (set ps j v)
within-moved count v [] j h w k = w k
within-moved count v (p ∷ ps) zero h w zero = h
within-moved count v (p ∷ ps) zero h w (suc k) = w (suc k)
within-moved count v (p ∷ ps) (suc j) h w zero = w zero
within-moved count v (p ∷ ps) (suc j) h w (suc k) = within-moved count v ps j h (λ i. w (suc i)) k

pub none-beyond : (n count : ℕ) (ps : List ℕ) → Within count ps → any_beyond n count ps ≡ false
unfolding any_beyond
none-beyond zero count ps w = refl
none-beyond (suc n) count ps w = simp (le-ltb count (get_or ps n 0) (w n), none-beyond n count ps w)

-- ---- the first n are tested

pub none_upto : (n count : ℕ) (ps : List ℕ) → ((k : ℕ) → k < n → get_or ps k 0 ≤ count) → any_beyond n count ps ≡ false
unfolding any_beyond
none_upto zero count ps w = refl
none_upto (suc n) count ps w =
    simp (le-ltb count (get_or ps n 0) (w n (omega arith)), none_upto n count ps (λ k h. w k (omega arith)))

pub some-beyond : (n count : ℕ) (ps : List ℕ) (k : ℕ) → k < n → count < get_or ps k 0 → any_beyond n count ps ≡ true
unfolding any_beyond
some-beyond zero count ps k h l = absurd (omega arith)
some-beyond (suc n) count ps k h l =
    go (ltb count (get_or ps n 0)) refl (eqb k n) refl (λ d. some-beyond n count ps k d l)
  where
    go : (b : Bool) → ltb count (get_or ps n 0) ≡ b → (e : Bool) → eqb k n ≡ e
        → (k < n → any_beyond n count ps ≡ true) → (b || any_beyond n count ps) ≡ true
    go true p e q rest = refl
    go false p true q rest =
        absurd (omega (arith, ltb-false count (get_or ps n 0) p, ap (λ (m : ℕ). get_or ps m 0) (eqb-true k n q), l))
    go false p false q rest = rest (let d = eqb-false k n q in omega arith)

pub or-false : (a b : Bool) → (a || b) ≡ false → (a ≡ false) × (b ≡ false)
or-false true b e = absurd (true≢false e)
or-false false b e = (refl, e)

pub none_within : (n count : ℕ) (ps : List ℕ) → any_beyond n count ps ≡ false → (k : ℕ) → k < n → get_or ps k 0 ≤ count
unfolding any_beyond
none_within zero count ps e k h = absurd (omega arith)
none_within (suc n) count ps e k h =
    let p = or-false (ltb count (get_or ps n 0)) (any_beyond n count ps) e in
    go (ltb-false count (get_or ps n 0) p.0) (none_within n count ps p.1 k) (eqb k n) refl
  where
    go : get_or ps n 0 ≤ count → (k < n → get_or ps k 0 ≤ count) → (b : Bool) → eqb k n ≡ b → get_or ps k 0 ≤ count
    go last rest true t = rw (eqb-true k n t) last
    go last rest false t = rest (let d = eqb-false k n t in omega arith)

-- ---- one is moved

pub moved-own : (ps : List ℕ) (j v : ℕ) → j < length ps → get_or (set ps j v) j 0 ≡ v
moved-own [] j v h = absurd (omega arith)
moved-own (p ∷ ps) zero v h = refl
moved-own (p ∷ ps) (suc j) v h = moved-own ps j v (omega arith)

pub moved_other : (ps : List ℕ) (j k v : ℕ) → j ≢ k → get_or (set ps j v) k 0 ≡ get_or ps k 0
moved_other [] j k v h = refl
moved_other (p ∷ ps) zero zero v h = absurd (h refl)
moved_other (p ∷ ps) zero (suc k) v h = refl
moved_other (p ∷ ps) (suc j) zero v h = refl
moved_other (p ∷ ps) (suc j) (suc k) v h = moved_other ps j k v (λ e. h (ap suc e))
