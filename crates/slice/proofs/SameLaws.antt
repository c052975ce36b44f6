-- Laws of `same_bytes` and `starts_with`.
--
-- In order: the test means equality (`same_refl`, `same-eq`); lists of different lengths (`same_length`); what a loop over both asks at the place i
-- (`same_next`, `same_differs`, `same_end`); a loop that counts the places where they are alike (`Alike`, from `alike-none` to `alike_end`); fronts that are known to be
-- the same (`front-longer`, `same-last`); a part that differs (`same-part`); prefixes (`starts-short`, `starts-long`); a list that is two lists joined (`same-append`).
-- Assumes nothing.
use Prim.Native.Nat.{ℕ, zero, suc, ◌+◌, ◌≤◌, ◌<◌}
use native.Mathlib.Numerals.{add-one}
use native.Mathlib.Omega.{arith}
use native.Mathlib.Decide.{dec_le}
use mathlib.Core.Path.{◌≡◌, refl, sym, ap, ◌∙◌}
use mathlib.Core.Bool.{Bool, true, false, ◌&&◌, and-false, and_assoc, true≢false}
use mathlib.Core.List.{List, [], ◌∷◌, ◌++◌}
use lib.ListN.{length, take, drop, get_or, length-take, length-drop, drop_of_length-le}
use lib.Seq.{drop-cons, take_all, take-take, take-add}
use lib.Dec.{eqb}
use borrow.Author.Tests.{eq-eqb, ne_eqb, eqb-true}
use Rattle.slice.specs.Same.{same_bytes, starts_with}

-- ---- the test means equality

pub same_refl : (a : List ℕ) → same_bytes a a ≡ true
unfolding same_bytes
same_refl [] = refl
same_refl (x ∷ a) = rw (eq-eqb x x refl) (same_refl a)

pub same-eq : (a b : List ℕ) → same_bytes a b ≡ true → a ≡ b
unfolding same_bytes
same-eq [] [] e = refl
same-eq [] (y ∷ b) e = absurd (true≢false (sym e))
same-eq (x ∷ a) [] e = absurd (true≢false (sym e))
same-eq (x ∷ a) (y ∷ b) e = go (eqb x y) refl e (λ h. same-eq a b h)
  where
    go : (t : Bool) → eqb x y ≡ t → t && same_bytes a b ≡ true → (same_bytes a b ≡ true → a ≡ b) → x ∷ a ≡ y ∷ b
    go true q h ih = let p : a ≡ b = ih h in let r : x ≡ y = eqb-true x y q in cc
    go false q h ih = absurd (true≢false (sym h))

pub same_length : (a b : List ℕ) → (length a ≡ length b → ⊥) → same_bytes a b ≡ false
unfolding same_bytes
same_length [] [] h = absurd (h refl)
same_length [] (y ∷ b) h = refl
same_length (x ∷ a) [] h = refl
same_length (x ∷ a) (y ∷ b) h = rw (same_length a b (λ e. h (ap suc e))) (and-false (eqb x y))

-- ---- a loop over both lists

module _ (a b : List ℕ) (i : ℕ) (k : i < length a) (e : length a ≡ length b) where
  at_place : same_bytes (drop i a) (drop i b) ≡ (eqb (get_or a i 0) (get_or b i 0) && same_bytes (drop (i + 1) a) (drop (i + 1) b))
  unfolding same_bytes
  at_place = rw (add-one, drop-cons a i 0 k, drop-cons b i 0 (omega arith))

  pub same_next : get_or a i 0 ≡ get_or b i 0 → same_bytes (drop i a) (drop i b) ≡ same_bytes (drop (i + 1) a) (drop (i + 1) b)
  same_next h = at_place ∙ rw (eq-eqb (get_or a i 0) (get_or b i 0) h)

  pub same_differs : (get_or a i 0 ≡ get_or b i 0 → ⊥) → same_bytes (drop i a) (drop i b) ≡ false
  same_differs h = at_place ∙ rw (ne_eqb (get_or a i 0) (get_or b i 0) h)

pub same_end : (a b : List ℕ) (i : ℕ) → length a ≤ i → length b ≤ i → same_bytes (drop i a) (drop i b) ≡ true
unfolding same_bytes
same_end a b i h k = rw (drop_of_length-le a h, drop_of_length-le b k)

-- ---- a loop that counts

-- at n of the first i places the lists are alike
pub record Alike (a b : List ℕ) (i n : ℕ) : Type 0 where
  pub most : n ≤ i
  pub all : n ≡ i → same_bytes a b ≡ same_bytes (drop i a) (drop i b)
  pub fewer : n < i → same_bytes a b ≡ false

pub alike-none : (a b : List ℕ) → Alike a b 0 0
alike-none a b = record { most = omega arith; all = λ _. refl; fewer = λ h. absurd (omega arith) }

module _ (a b : List ℕ) (i n : ℕ) (k : i < length a) (e : length a ≡ length b) (v : Alike a b i n) where
  pub alike_next : get_or a i 0 ≡ get_or b i 0 → Alike a b (i + 1) (n + 1)
  alike_next h =
      record {
        most = omega (arith, v.most);
        all = λ z. v.all (omega arith) ∙ same_next a b i k e h;
        fewer = λ z. v.fewer (omega arith);
      }

  pub alike-differs : (get_or a i 0 ≡ get_or b i 0 → ⊥) → Alike a b (i + 1) n
  alike-differs h =
      record {
        most = omega (arith, v.most);
        all = λ z. absurd (omega (arith, v.most));
        fewer = λ z. go (dec_le i n);
      }
    where
      go : Dec (i ≤ n) → same_bytes a b ≡ false
      go (yes z) = v.all (omega (arith, v.most)) ∙ same_differs a b i k e h
      go (no z) = v.fewer (omega arith)

pub alike_end : (a b : List ℕ) (i n : ℕ) → length a ≤ i → length b ≤ i → Alike a b i n → eqb n i ≡ same_bytes a b
alike_end a b i n ha hb v = go (dec_le i n)
  where
    go : Dec (i ≤ n) → eqb n i ≡ same_bytes a b
    go (yes z) = let q : n ≡ i = omega (arith, v.most) in eq-eqb n i q ∙ sym (v.all q ∙ same_end a b i ha hb)
    go (no z) = ne_eqb n i (λ q. absurd (omega arith)) ∙ sym (v.fewer (omega arith))

-- ---- fronts that are the same

-- what stands behind them decides
same-behind : (i : ℕ) (a b : List ℕ) → take i a ≡ take i b → same_bytes a b ≡ same_bytes (drop i a) (drop i b)
unfolding same_bytes
same-behind zero a b e = refl
same-behind (suc i) [] [] e = refl
same-behind (suc i) [] (y ∷ b) e = let z : ◌≡◌ {A = ℕ} 0 1 = cc in absurd (omega arith)
same-behind (suc i) (x ∷ a) [] e = let z : ◌≡◌ {A = ℕ} 0 1 = cc in absurd (omega arith)
same-behind (suc i) (x ∷ a) (y ∷ b) e =
    let h : x ≡ y = cc in let t : take i a ≡ take i b = cc in rw (eq-eqb x y h) (same-behind i a b t)

module _ (a b : List ℕ) (i : ℕ) (e : take i a ≡ take i b) where
  -- the n behind them are the same too
  pub front-longer : (n : ℕ) → same_bytes (take n (drop i a)) (take n (drop i b)) ≡ true → take (i + n) a ≡ take (i + n) b
  front-longer n h = let t : take n (drop i a) ≡ take n (drop i b) = same-eq _ _ h in cc (take-add i n a, take-add i n b)

  -- the last n decide, where no more are left
  pub same-last : (j n : ℕ) → j ≤ i → length a ≤ j + n → length b ≤ j + n
      → same_bytes (take n (drop j a)) (take n (drop j b)) ≡ same_bytes a b
  same-last j n h ha hb =
      let t : take j a ≡ take j b = sym (take-take j i a h) ∙ ap (take j) e ∙ take-take j i b h in
      let ea : take n (drop j a) ≡ drop j a = take_all n (drop j a) (rw length-drop (omega arith)) in
      let eb : take n (drop j b) ≡ drop j b = take_all n (drop j b) (rw length-drop (omega arith)) in
      rw (ea, eb) (sym (same-behind j a b t))

-- lists that differ in a part differ
pub same-part : (f : List ℕ → List ℕ) (a b : List ℕ) → same_bytes (f a) (f b) ≡ false → same_bytes a b ≡ false
same-part f a b h = go (same_bytes a b) refl
  where
    go : (t : Bool) → same_bytes a b ≡ t → t ≡ false
    go true q =
        let p : a ≡ b = same-eq a b q in
        absurd (true≢false (sym (same_refl (f b)) ∙ ap (λ (l : List ℕ). same_bytes (f l) (f b)) (sym p) ∙ h))
    go false q = refl

-- ---- prefixes

pub starts-short : (p s : List ℕ) → length s < length p → starts_with p s ≡ false
unfolding starts_with
starts-short p s h = same_length (take (length p) s) p (λ e. absurd (omega (arith, length-take (length p) s)))

pub starts-long : (p s : List ℕ) → starts_with p s ≡ true → length p ≤ length s
starts-long p s e = go (dec_le (length p) (length s))
  where
    go : Dec (length p ≤ length s) → length p ≤ length s
    go (yes h) = h
    go (no h) = let z : true ≡ false = sym e ∙ starts-short p s (omega arith) in absurd (true≢false z)

-- ---- a list that is two lists joined

pub same-append : (p q s : List ℕ) → same_bytes s (p ++ q) ≡ (starts_with p s && same_bytes (drop (length p) s) q)
unfolding same_bytes starts_with
same-append [] q s = refl
same-append (x ∷ p) q [] = refl
same-append (x ∷ p) q (y ∷ s) = rw (same-append p q s) (sym (and_assoc (eqb y x) (same_bytes (take (length p) s) p) (same_bytes (drop (length p) s) q)))
