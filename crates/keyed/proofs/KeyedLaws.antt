-- What `find` sees after each operation on a rising list, and that it sees all: two rising lists with the same finds are equal.
-- Assumes nothing.
use Rattle.std.specs.Prelude.{option_map, Option, Some, None}
use mathlib.Core.Path.{◌≡◌, refl, ap, ap₂, sym, ◌∙◌, subst}
use mathlib.Core.Bool.{Bool, true, false, cond, not, false≢true}
use mathlib.Core.List.{List, [], ◌∷◌, map}
use Rattle.std.proofs.lemmas.Option.{none-some}
use Prim.Native.Nat.{ℕ, zero, suc, ◌≤◌, ◌<◌}
use native.Mathlib.Omega.{arith}
use lib.Dec.{eqb, ltb}
use borrow.Author.Tests.{ltb-true, ltb-false, eqb-true, eqb-false, eq-eqb, ne_eqb}
use Rattle.keyed.specs.Keyed.{or_else, only, filter, Above, Rising, find, insert, insert_all}

-- a statement about a choice, from the statement about each side and what the test then says
pub choose {ℓ} : {A : Type ℓ} (P : A → Type 0) (b : Bool) {x y : A} → (b ≡ true → P x) → (b ≡ false → P y) → P (cond b x y)
choose P true f g = f refl
choose P false f g = g refl

swap : {A : Type 0} (a b : Bool) (x y r : A) → (a ≡ true → b ≡ true → ⊥) → cond b y (cond a x r) ≡ cond a x (cond b y r)
swap true true x y r h = absurd (h refl refl)
swap true false x y r h = refl
swap false true x y r h = refl
swap false false x y r h = refl

drop-under : {A : Type 0} (a b : Bool) (x y r : A) → (b ≡ true → a ≡ true) → cond a x r ≡ cond a x (cond b y r)
drop-under true b x y r h = refl
drop-under false true x y r h = absurd (false≢true (h refl))
drop-under false false x y r h = refl

module _ {A : Type 0} (key : A → ℕ) where
  -- a key that is not above the first is not found further on
  pub find-below : (k : ℕ) (m : ℕ) (xs : List A) → k ≤ m → Above key m xs → Rising key xs → find key k xs ≡ None
  find-below k m [] h a r = refl
  find-below k m (x ∷ xs) h a r = rw (ne_eqb k (key x) (λ e. omega arith)) (find-below k (key x) xs (omega arith) r.0 r.1)

  pub key-of-find : (k : ℕ) (xs : List A) (x : A) → find key k xs ≡ Some x → key x ≡ k
  key-of-find k [] x e = absurd (none-some x e)
  key-of-find k (y ∷ ys) x e = go (eqb k (key y)) refl (find key k ys) (key-of-find k ys x) e
    where
      go : (b : Bool) → eqb k (key y) ≡ b → (o : Option A) → (o ≡ Some x → key x ≡ k) → cond b (Some y) o ≡ Some x → key x ≡ k
      go true t o f h = let q : y ≡ x = cc in sym (eqb-true k (key y) t ∙ ap key q)
      go false t o f h = f h

  pub find-insert : (k : ℕ) (x : A) (ys : List A) → find key k (insert key x ys) ≡ cond (eqb k (key x)) (Some x) (find key k ys)
  find-insert k x [] = refl
  find-insert k x (y ∷ ys) =
      choose (λ l. find key k l ≡ cond (eqb k (key x)) (Some x) (find key k (y ∷ ys))) (ltb (key x) (key y)) (λ t. refl) (λ t.
      choose (λ l. find key k l ≡ cond (eqb k (key x)) (Some x) (find key k (y ∷ ys))) (eqb (key x) (key y))
      (λ u. drop-under (eqb k (key x)) (eqb k (key y)) _ _ _ (λ v. eq-eqb k (key x) (eqb-true k (key y) v ∙ sym (eqb-true (key x) (key y) u))))
      (λ u. ap (cond (eqb k (key y)) (Some y)) (find-insert k x ys)
      ∙ swap (eqb k (key x)) (eqb k (key y)) _ _ _ (λ v w. eqb-false (key x) (key y) u (sym (eqb-true k (key x) v) ∙ eqb-true k (key y) w))))

  above-insert : (m : ℕ) (x : A) (ys : List A) → m < key x → Above key m ys → Above key m (insert key x ys)
  above-insert m x [] h a = h
  above-insert m x (y ∷ ys) h a = choose (Above key m) (ltb (key x) (key y)) (λ t. h) (λ t. choose (Above key m) (eqb (key x) (key y)) (λ u. h) (λ u. a))

  above-trans : (m n : ℕ) (xs : List A) → m ≤ n → Above key n xs → Above key m xs
  above-trans m n [] h a = tt
  above-trans m n (x ∷ xs) h a = omega arith

  pub rising-insert : (x : A) (ys : List A) → Rising key ys → Rising key (insert key x ys)
  rising-insert x [] r = (tt, tt)
  rising-insert x (y ∷ ys) r =
      choose (Rising key) (ltb (key x) (key y)) (λ t. (ltb-true (key x) (key y) t, r)) (λ t.
      choose (Rising key) (eqb (key x) (key y))
      (λ u. (above-trans (key x) (key y) ys (omega (arith, eqb-true (key x) (key y) u)) r.0, r.1))
      (λ u. (above-insert (key y) x ys (omega (arith, ltb-false (key x) (key y) t, eqb-false (key x) (key y) u)) r.0, rising-insert x ys r.1)))

  pub rising-insert_all : (xs ys : List A) → Rising key ys → Rising key (insert_all key xs ys)
  rising-insert_all [] ys r = r
  rising-insert_all (x ∷ xs) ys r = rising-insert x (insert_all key xs ys) (rising-insert_all xs ys r)

  or-cond : (b : Bool) (x : A) (o u : Option A) → cond b (Some x) (or_else o u) ≡ or_else (cond b (Some x) o) u
  or-cond true x o u = refl
  or-cond false x o u = refl

  pub find-insert_all : (k : ℕ) (xs ys : List A) → find key k (insert_all key xs ys) ≡ or_else (find key k xs) (find key k ys)
  find-insert_all k [] ys = refl
  find-insert_all k (x ∷ xs) ys =
      find-insert k x (insert_all key xs ys) ∙ ap (cond (eqb k (key x)) (Some x)) (find-insert_all k xs ys) ∙ or-cond (eqb k (key x)) x (find key k xs) (find key k ys)

  above-filter : (p : A → Bool) (m : ℕ) (xs : List A) → Above key m xs → Rising key xs → Above key m (filter p xs)
  above-filter p m [] a r = tt
  above-filter p m (x ∷ xs) a r =
      choose (Above key m) (p x) (λ t. a) (λ t. above-filter p m xs (above-trans m (key x) xs (omega arith) r.0) r.1)

  pub rising-filter : (p : A → Bool) (xs : List A) → Rising key xs → Rising key (filter p xs)
  rising-filter p [] r = tt
  rising-filter p (x ∷ xs) r =
      choose (Rising key) (p x) (λ t. (above-filter p (key x) xs r.0 r.1, rising-filter p xs r.1)) (λ t. rising-filter p xs r.1)

  pub find-filter : (p : A → Bool) (k : ℕ) (xs : List A) → Rising key xs → find key k (filter p xs) ≡ only p (find key k xs)
  find-filter p k [] r = refl
  find-filter p k (x ∷ xs) r = go (eqb k (key x)) refl (p x) refl (find-filter p k xs r.1)
    where
      go : (b : Bool) → eqb k (key x) ≡ b → (c : Bool) → p x ≡ c → find key k (filter p xs) ≡ only p (find key k xs)
          → find key k (cond (p x) (x ∷ filter p xs) (filter p xs)) ≡ only p (cond (eqb k (key x)) (Some x) (find key k xs))
      go true t true u ih = simp (t, u)
      go true t false u ih =
          simp (t, u) (find-below k (key x) (filter p xs) (omega (arith, eqb-true k (key x) t)) (above-filter p (key x) xs r.0 r.1) (rising-filter p xs r.1))
      go false t true u ih = simp (t, u) ih
      go false t false u ih = simp (t, u) ih

  -- the heads of two rising lists in which each key finds the same
  heads : (x y : A) (xs ys : List A) → Rising key (y ∷ ys) → find key (key x) (x ∷ xs) ≡ find key (key x) (y ∷ ys) → key y ≤ key x × ((key x ≡ key y) → x ≡ y)
  heads x y xs ys s h = go (ltb (key x) (key y)) refl
    where
      here : Some x ≡ cond (eqb (key x) (key y)) (Some y) (find key (key x) ys)
      here = rw (eq-eqb (key x) (key x) refl) at h

      go : (b : Bool) → ltb (key x) (key y) ≡ b → key y ≤ key x × ((key x ≡ key y) → x ≡ y)
      go true t =
          absurd (none-some x (sym (here ∙ find-below (key x) (key x) (y ∷ ys) (omega arith) (ltb-true (key x) (key y) t) s)))
      go false t = (ltb-false (key x) (key y) t, λ e. let q : Some x ≡ Some y = rw (eq-eqb (key x) (key y) e) at here in cc)

  tails : (k : ℕ) (x : A) (xs ys : List A) → Above key (key x) xs → Above key (key x) ys → Rising key xs → Rising key ys
      → find key k (x ∷ xs) ≡ find key k (x ∷ ys) → find key k xs ≡ find key k ys
  tails k x xs ys a b r s h = go (eqb k (key x)) refl
    where
      go : (c : Bool) → eqb k (key x) ≡ c → find key k xs ≡ find key k ys
      go true t =
          let l : k ≤ key x = omega (arith, eqb-true k (key x) t) in
          find-below k (key x) xs l a r ∙ sym (find-below k (key x) ys l b s)
      go false t = rw t at h

  -- two rising lists in which each key finds the same are equal
  pub extensional : (xs ys : List A) → Rising key xs → Rising key ys → ((k : ℕ) → find key k xs ≡ find key k ys) → xs ≡ ys
  extensional [] [] r s h = refl
  extensional [] (y ∷ ys) r s h = absurd (none-some y (rw (eq-eqb (key y) (key y) refl) at (h (key y))))
  extensional (x ∷ xs) [] r s h = absurd (none-some x (sym (rw (eq-eqb (key x) (key x) refl) at (h (key x)))))
  extensional (x ∷ xs) (y ∷ ys) r s h =
      ap₂ ◌∷◌ same (extensional xs ys r.1 s.1 (λ k. tails k x xs ys r.0 (subst (λ z. Above key (key z) ys) (sym same) s.0) r.1 s.1 (h k ∙ ap (λ z. find key k (z ∷ ys)) (sym same))))
    where
      one : key y ≤ key x × ((key x ≡ key y) → x ≡ y)
      one = heads x y xs ys s (h (key x))

      two : key x ≤ key y × ((key y ≡ key x) → y ≡ x)
      two = heads y x ys xs r (sym (h (key y)))

      same : x ≡ y
      same = one.1 (omega (arith, one.0, two.0))

  -- the keys alone
  pub find-keys : (k : ℕ) (xs : List A) → find (λ n. n) k (map key xs) ≡ option_map key (find key k xs)
  find-keys k [] = refl
  find-keys k (x ∷ xs) = go (eqb k (key x)) (find-keys k xs)
    where
      go : (b : Bool) → find (λ n. n) k (map key xs) ≡ option_map key (find key k xs)
          → cond b (Some (key x)) (find (λ n. n) k (map key xs)) ≡ option_map key (cond b (Some x) (find key k xs))
      go true ih = refl
      go false ih = ih

  pub rising-keys : (xs : List A) → Rising key xs → Rising (λ n. n) (map key xs)
  rising-keys [] r = tt
  rising-keys (x ∷ []) r = (tt, tt)
  rising-keys (x ∷ (y ∷ ys)) r = (r.0, rising-keys (y ∷ ys) r.1)

  -- a test of what k finds may read k for its key
  pub only_at : (f : ℕ → A → Bool) (k : ℕ) (xs : List A) → only (λ x. f (key x) x) (find key k xs) ≡ only (λ x. f k x) (find key k xs)
  only_at f k xs = go (find key k xs) refl
    where
      go : (o : Option A) → find key k xs ≡ o → only (λ x. f (key x) x) o ≡ only (λ x. f k x) o
      go None e = refl
      go (Some x) e = rw (key-of-find k xs x e)

  -- the entries whose keys a test leaves out, left out
  pub find-without : (q : ℕ → Bool) (k : ℕ) (xs : List A) → Rising key xs → find key k (filter (λ x. not (q (key x))) xs) ≡ cond (q k) None (find key k xs)
  find-without q k xs r = find-filter (λ x. not (q (key x))) k xs r ∙ only_at (λ i x. not (q i)) k xs ∙ go (q k) (find key k xs)
    where
      go : (b : Bool) (o : Option A) → only (λ x. not b) o ≡ cond b None o
      go true None = refl
      go true (Some x) = refl
      go false None = refl
      go false (Some x) = refl
