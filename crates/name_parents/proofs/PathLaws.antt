-- Laws of paths and parents: how far a walk over a text comes, and `is_path` by the places of the first two '/'.
--
-- In order: classes and what stops a walk; a walk at the place i (`passed-stop`, `passed-low`, `passed-dash`, `passed-end`); where
-- it stops (`stop-most`), and what it has passed: no mark (`clean-walk`, `clean-behind`, `clean_all`) and no '/' (`SlashAt`, `slash-at`,
-- `unclean-at`, `slash-or-mark`); paths by their three parts (`clean-parts`); the cases of `is_path`: a mark (`path-unclean`), then
-- from no tenant to a path that is only to be clean (`path-no-tenant` to `path-clean`); those of `is_parent` (`parent_is`, `parent-not`,
-- `parent-long`).
-- Assumes nothing.
use Prim.Native.Nat.{ℕ, suc, ◌+◌, ◌-◌, ◌≤◌, ◌<◌}
use native.Mathlib.Numerals.{add-one}
use native.Mathlib.Omega.{arith}
use native.Mathlib.Decide.{dec_le, ℕ_discrete}
use mathlib.Core.Logic.{◌⊎◌, inl, inr}
use mathlib.Core.Path.{◌≡◌, refl, sym, ap, ◌∙◌}
use mathlib.Core.Bool.{Bool, true, false, cond, not, ◌&&◌, and-false, and_assoc, true≢false}
use mathlib.Core.List.{List, [], ◌∷◌}
use lib.ListN.{length, drop, get_or, length-drop, drop_of_length-le}
use lib.Seq.{drop-cons, drop-drop, get_or-drop}
use lib.Dec.{ltb, leb, eqb}
use borrow.Author.Tests.{eqb-true, eq-eqb, ne_eqb, lt-ltb, le-ltb, le-leb, lt-leb}
use Rattle.slice.specs.Same.{starts_with}
use Rattle.slice.proofs.SameLaws.{starts-long}
use Rattle.name_parents.specs.Classes.{between, class_of, is_slash, is_mark}
use Rattle.name_parents.specs.Parents.{before_slash, behind_slash, clean, non_empty, ends_in_slash, tenant, namespace, local_name}
use Rattle.name_parents.specs.Parents.{is_local_name, has_three_parts, front_clean, is_path, is_parent, topic_scheme, stops, passed}

-- ---- classes

cond-most : (t : Bool) (x y n : ℕ) → x ≤ n → y ≤ n → cond t x y ≤ n
cond-most true x y n h k = h
cond-most false x y n h k = k

class-most : (b : ℕ) → class_of b ≤ 6
unfolding class_of
class-most b =
    cond-most (between 0x30 0x39 b) 1 _ 6 (omega arith)
    (cond-most (between 0x61 0x66 b) 2 _ 6 (omega arith)
    (cond-most (eqb b 0x2F) 3 _ 6 (omega arith)
    (cond-most (eqb b 0x2D) 4 _ 6 (omega arith)
    (cond-most (eqb b 0x3F) 5 _ 6 (omega arith)
    (cond-most (eqb b 0x23) 6 0 6 (omega arith) (omega arith))))))

module _ (b : ℕ) where
  marked : 5 ≤ class_of b → is_mark b ≡ true
  marked h = go (dec_le (class_of b) 5)
    where
      go : Dec (class_of b ≤ 5) → is_mark b ≡ true
      go (yes k) = rw (eq-eqb (class_of b) 5 (omega arith))
      go (no k) = let e : class_of b ≡ 6 = omega (arith, class-most b) in rw e

  unmarked : class_of b < 5 → is_mark b ≡ false
  unmarked h = rw (ne_eqb (class_of b) 5 (λ e. absurd (omega arith)), ne_eqb (class_of b) 6 (λ e. absurd (omega arith)))

  module _ (lowest : ℕ) where
    stop_is : lowest ≤ class_of b → (class_of b ≡ 4 → ⊥) → stops lowest b ≡ true
    stop_is h k = rw (le-leb lowest (class_of b) h, ne_eqb (class_of b) 4 k)

    stop-low : class_of b < lowest → stops lowest b ≡ false
    stop-low h = rw (lt-leb lowest (class_of b) h)

    stop-dash : class_of b ≡ 4 → stops lowest b ≡ false
    stop-dash e = rw e (and-false (leb lowest 4))

    -- a byte that stops, and one that does not
    stopping : stops lowest b ≡ true → (lowest ≤ class_of b) × (class_of b ≡ 4 → ⊥)
    stopping e = go (dec_le lowest (class_of b))
      where
        go : Dec (lowest ≤ class_of b) → (lowest ≤ class_of b) × (class_of b ≡ 4 → ⊥)
        go (yes h) = (h, λ k. true≢false (sym e ∙ stop-dash k))
        go (no h) = absurd (true≢false (sym e ∙ stop-low (omega arith)))

    passing : stops lowest b ≡ false → (class_of b < lowest) ⊎ (class_of b ≡ 4)
    passing e = go (dec_le lowest (class_of b)) (ℕ_discrete (class_of b) 4)
      where
        go : Dec (lowest ≤ class_of b) → Dec (class_of b ≡ 4) → (class_of b < lowest) ⊎ (class_of b ≡ 4)
        go (yes h) (yes k) = inr k
        go (yes h) (no k) = absurd (true≢false (sym (stop_is h k) ∙ e))
        go (no h) k = inl (omega arith)

    passing-unmarked : lowest ≤ 5 → stops lowest b ≡ false → is_mark b ≡ false
    passing-unmarked h e = go (passing e)
      where
        go : (class_of b < lowest) ⊎ (class_of b ≡ 4) → is_mark b ≡ false
        go (inl k) = unmarked (omega arith)
        go (inr k) = unmarked (omega arith)

-- ---- a walk over a text, at the place i

module _ (lowest : ℕ) (s : List ℕ) (i : ℕ) (k : i < length s) where
  passed-at : passed lowest (drop i s) ≡ cond (stops lowest (get_or s i 0)) 0 (suc (passed lowest (drop (i + 1) s)))
  unfolding passed
  passed-at = rw (add-one, drop-cons s i 0 k)

  pub passed-stop : lowest ≤ class_of (get_or s i 0) → (class_of (get_or s i 0) ≡ 4 → ⊥) → passed lowest (drop i s) ≡ 0
  passed-stop h e = passed-at ∙ rw (stop_is (get_or s i 0) lowest h e)

  pub passed-low : class_of (get_or s i 0) < lowest → passed lowest (drop i s) ≡ suc (passed lowest (drop (i + 1) s))
  passed-low h = passed-at ∙ rw (stop-low (get_or s i 0) lowest h)

  pub passed-dash : class_of (get_or s i 0) ≡ 4 → passed lowest (drop i s) ≡ suc (passed lowest (drop (i + 1) s))
  passed-dash e = passed-at ∙ rw (stop-dash (get_or s i 0) lowest e)

pub passed-end : (lowest : ℕ) (s : List ℕ) (i : ℕ) → length s ≤ i → passed lowest (drop i s) ≡ 0
unfolding passed
passed-end lowest s i h = rw (drop_of_length-le s h)

-- ---- where it stops, and what it has passed

passed-most : (lowest : ℕ) (l : List ℕ) → passed lowest l ≤ length l
unfolding passed
passed-most lowest [] = omega arith
passed-most lowest (b ∷ l) = go (stops lowest b) (passed-most lowest l)
  where
    go : (t : Bool) → passed lowest l ≤ length l → cond t 0 (suc (passed lowest l)) ≤ suc (length l)
    go true h = omega arith
    go false h = omega arith

stopped : (lowest : ℕ) (l : List ℕ) → passed lowest l < length l → stops lowest (get_or l (passed lowest l) 0) ≡ true
unfolding passed
stopped lowest [] h = absurd (omega arith)
stopped lowest (b ∷ l) h = go (stops lowest b) refl (stopped lowest l) h
  where
    go : (t : Bool) → stops lowest b ≡ t → (passed lowest l < length l → stops lowest (get_or l (passed lowest l) 0) ≡ true)
        → cond t 0 (suc (passed lowest l)) < suc (length l) → stops lowest (get_or (b ∷ l) (cond t 0 (suc (passed lowest l))) 0) ≡ true
    go true e ih k = e
    go false e ih k = ih (omega arith)

clean-passed : (lowest : ℕ) → lowest ≤ 5 → (l : List ℕ) → clean l ≡ clean (drop (passed lowest l) l)
unfolding passed clean
clean-passed lowest h [] = refl
clean-passed lowest h (b ∷ l) = go (stops lowest b) refl (clean-passed lowest h l)
  where
    go : (t : Bool) → stops lowest b ≡ t → clean l ≡ clean (drop (passed lowest l) l)
        → clean (b ∷ l) ≡ clean (drop (cond t 0 (suc (passed lowest l))) (b ∷ l))
    go true e ih = refl
    go false e ih = rw (passing-unmarked b lowest h e) ih

-- up to the first '/', or the end
slash-passed : (l : List ℕ) → (passed 3 l < length l → class_of (get_or l (passed 3 l) 0) ≡ 3)
    → (length (before_slash l) ≡ passed 3 l) × (behind_slash l ≡ drop (suc (passed 3 l)) l)
unfolding passed before_slash behind_slash
slash-passed [] h = (refl, refl)
slash-passed (b ∷ l) h = go (stops 3 b) refl h (slash-passed l)
  where
    go : (t : Bool) → stops 3 b ≡ t
        → (cond t 0 (suc (passed 3 l)) < suc (length l) → class_of (get_or (b ∷ l) (cond t 0 (suc (passed 3 l))) 0) ≡ 3)
        → ((passed 3 l < length l → class_of (get_or l (passed 3 l) 0) ≡ 3) → (length (before_slash l) ≡ passed 3 l) × (behind_slash l ≡ drop (suc (passed 3 l)) l))
        → (length (cond (is_slash b) [] (b ∷ before_slash l)) ≡ cond t 0 (suc (passed 3 l)))
        × (cond (is_slash b) l (behind_slash l) ≡ drop (suc (cond t 0 (suc (passed 3 l)))) (b ∷ l))
    go true e k ih = let c : class_of b ≡ 3 = k (omega arith) in (rw c, rw c)
    go false e k ih =
        let n : is_slash b ≡ false = ne_eqb (class_of b) 3 (λ c. absurd (true≢false (sym (stop_is b 3 (omega arith) (λ d. absurd (omega arith))) ∙ e))) in
        let r = ih (λ m. k (omega arith)) in
        (rw n (ap suc r.0), rw n r.1)

-- r is the place of the first '/' from the place from on, or the end
pub record SlashAt (s : List ℕ) (from r : ℕ) : Type 0 where
  pub low : from ≤ r
  pub before : length (before_slash (drop from s)) ≡ r - from
  pub after : behind_slash (drop from s) ≡ drop (r + 1) s

-- a walk from the place from on stops at r
module _ (lowest : ℕ) (s : List ℕ) (from r : ℕ) (h : from ≤ length s) (e : r ≡ from + passed lowest (drop from s)) where
  pub stop-most : r ≤ length s
  stop-most = omega (arith, passed-most lowest (drop from s), length-drop from s)

  pub clean-walk : lowest ≤ 5 → clean (drop from s) ≡ clean (drop r s)
  clean-walk k = clean-passed lowest k (drop from s) ∙ ap clean (drop-drop (passed lowest (drop from s)) from s ∙ ap (λ (n : ℕ). drop n s) (sym e))

  stop-class : r < length s → (lowest ≤ class_of (get_or s r 0)) × (class_of (get_or s r 0) ≡ 4 → ⊥)
  stop-class k =
      let g : get_or (drop from s) (passed lowest (drop from s)) 0 ≡ get_or s r 0 = rw (get_or-drop, e) in
      stopping (get_or s r 0) lowest (ap (stops lowest) (sym g) ∙ stopped lowest (drop from s) (omega (arith, length-drop from s)))

clean_at : (s : List ℕ) (i : ℕ) → i < length s → clean (drop i s) ≡ (not (is_mark (get_or s i 0)) && clean (drop (i + 1) s))
unfolding clean
clean_at s i k = rw (add-one, drop-cons s i 0 k)

-- a '/' is no mark
pub clean-behind : (s : List ℕ) (i : ℕ) → i < length s → class_of (get_or s i 0) ≡ 3 → clean (drop i s) ≡ clean (drop (i + 1) s)
clean-behind s i k c = clean_at s i k ∙ rw c

-- a walk that stops at marks alone tells whether there is one
pub clean_all : (s : List ℕ) (from r : ℕ) → from ≤ length s → r ≡ from + passed 5 (drop from s) → eqb r (length s) ≡ clean (drop from s)
unfolding clean
clean_all s from r h e = go (dec_le (length s) r)
  where
    go : Dec (length s ≤ r) → eqb r (length s) ≡ clean (drop from s)
    go (yes k) =
        let q : r ≡ length s = omega (arith, stop-most 5 s from r h e) in
        eq-eqb r (length s) q ∙ sym (clean-walk 5 s from r h e (omega arith) ∙ rw (drop_of_length-le s k))
    go (no k) =
        let l : r < length s = omega arith in
        let c = stop-class 5 s from r h e l in
        ne_eqb r (length s) (λ q. absurd (omega arith))
        ∙ sym (clean-walk 5 s from r h e (omega arith) ∙ clean_at s r l ∙ rw (marked (get_or s r 0) c.0))

module _ (s : List ℕ) (from r : ℕ) (h : from ≤ length s) (e : r ≡ from + passed 3 (drop from s)) where
  pub slash-at : (r < length s → class_of (get_or s r 0) ≡ 3) → SlashAt s from r
  slash-at c =
      let g : get_or (drop from s) (passed 3 (drop from s)) 0 ≡ get_or s r 0 = rw (get_or-drop, e) in
      let t = slash-passed (drop from s) (λ k. ap class_of g ∙ c (omega (arith, length-drop from s))) in
      let m : from + suc (passed 3 (drop from s)) ≡ r + 1 = omega arith in
      record {
        low = omega arith;
        before = t.0 ∙ omega arith;
        after = t.1 ∙ drop-drop (suc (passed 3 (drop from s))) from s ∙ ap (λ (i : ℕ). drop i s) m;
      }

  -- it stops at a mark
  pub unclean-at : r < length s → (class_of (get_or s r 0) ≡ 3 → ⊥) → clean (drop from s) ≡ false
  unclean-at k c =
      let t = stop-class 3 s from r h e k in
      let d : class_of (get_or s r 0) ≡ 4 → ⊥ = t.1 in
      clean-walk 3 s from r h e (omega arith) ∙ clean_at s r k ∙ rw (marked (get_or s r 0) (omega (arith, t.0)))

  pub slash-or-mark : SlashAt s from r ⊎ (clean (drop from s) ≡ false)
  slash-or-mark = go (ℕ_discrete (class_of (get_or s r 0)) 3) (dec_le (length s) r)
    where
      go : Dec (class_of (get_or s r 0) ≡ 3) → Dec (length s ≤ r) → SlashAt s from r ⊎ (clean (drop from s) ≡ false)
      go (yes c) k = inl (slash-at (λ z. c))
      go (no c) (yes k) = inl (slash-at (λ z. absurd (omega arith)))
      go (no c) (no k) = inr (unclean-at (omega arith) c)

-- ---- paths by their parts

-- before and behind the first '/', which is no mark
clean-slash : (s : List ℕ) → clean s ≡ (clean (before_slash s) && clean (behind_slash s))
unfolding clean before_slash behind_slash
clean-slash [] = refl
clean-slash (b ∷ s) = go (is_slash b) refl (clean-slash s)
  where
    go : (t : Bool) → is_slash b ≡ t → clean s ≡ (clean (before_slash s) && clean (behind_slash s))
        → clean (b ∷ s) ≡ (clean (cond (is_slash b) [] (b ∷ before_slash s)) && clean (cond (is_slash b) s (behind_slash s)))
    go true e ih = let c : class_of b ≡ 3 = eqb-true (class_of b) 3 e in rw c
    go false e ih = rw (e, ih) (sym (and_assoc (not (is_mark b)) (clean (before_slash s)) (clean (behind_slash s))))

-- a path is clean where its three parts are
clean-parts : (p : List ℕ) → (clean (local_name p) && front_clean p) ≡ clean p
unfolding front_clean
clean-parts p =
    turn (clean (local_name p)) (clean (tenant p)) (clean (namespace p))
    ∙ sym (clean-slash p ∙ ap (λ (t : Bool). clean (tenant p) && t) (clean-slash (behind_slash p)))
  where
    turn : (a b c : Bool) → (a && (b && c)) ≡ (b && (c && a))
    turn true true true = refl
    turn true true false = refl
    turn true false c = refl
    turn false true true = refl
    turn false true false = refl
    turn false false c = refl

-- what is no path by 01's rule is none
path-not : (p : List ℕ) → has_three_parts p ≡ false → is_path p ≡ false
unfolding is_path
path-not p e = rw e

-- a path is clean
pub path-unclean : (p : List ℕ) → clean p ≡ false → is_path p ≡ false
unfolding is_path has_three_parts
path-unclean p e =
    shut (non_empty (tenant p)) (non_empty (namespace p)) (non_empty (local_name p)) (not (ends_in_slash (local_name p))) (clean (local_name p)) (front_clean p) (clean-parts p ∙ e)
  where
    shut : (x y z w c f : Bool) → (c && f) ≡ false → ((x && (y && (z && (w && c)))) && f) ≡ false
    shut x y z w c false h = and-false (x && (y && (z && (w && c))))
    shut x y z w true true h = absurd (true≢false h)
    shut x y z w false true h = rw (and-false w, and-false z, and-false y, and-false x)

-- ---- the path behind a place, with its first '/' at a and its second at b

module _ (s : List ℕ) (from a : ℕ) (A : SlashAt s from a) where
  tenant-at : non_empty (tenant (drop from s)) ≡ ltb 0 (a - from)
  tenant-at = rw A.before

  pub path-no-tenant : a ≡ from → is_path (drop from s) ≡ false
  unfolding has_three_parts
  path-no-tenant e = path-not (drop from s) (rw (tenant-at, le-ltb 0 (a - from) (omega arith)))

  pub path-no-slash : length s ≤ a → is_path (drop from s) ≡ false
  unfolding has_three_parts before_slash
  path-no-slash h =
      let e : drop (a + 1) s ≡ [] = drop_of_length-le s {i = a + 1} (omega arith) in
      let f : behind_slash (drop from s) ≡ [] = A.after ∙ e in
      path-not (drop from s) (rw f (and-false (non_empty (tenant (drop from s)))))

  module _ (b : ℕ) (B : SlashAt s (a + 1) b) (k : from < a) where
    namespace-at : has_three_parts (drop from s) ≡ (ltb 0 (b - (a + 1)) && is_local_name (drop (b + 1) s))
    unfolding has_three_parts
    namespace-at =
        let f : behind_slash (drop from s) ≡ drop (a + 1) s = A.after in
        rw (tenant-at, lt-ltb 0 (a - from) (omega arith), f, B.before, B.after)

    pub path-no-namespace : b ≡ a + 1 → is_path (drop from s) ≡ false
    path-no-namespace e = path-not (drop from s) (namespace-at ∙ rw (le-ltb 0 (b - (a + 1)) (omega arith)))

    module _ (h : (b ≡ a + 1 → ⊥)) where
      local-name-at : has_three_parts (drop from s) ≡ is_local_name (drop (b + 1) s)
      local-name-at = namespace-at ∙ rw (lt-ltb 0 (b - (a + 1)) (omega (arith, B.low)))

      pub path-no-local-name : length s ≤ b + 1 → is_path (drop from s) ≡ false
      path-no-local-name i = path-not (drop from s) (local-name-at ∙ rw (drop_of_length-le s i))

      module _ (i : b + 1 < length s) where
        last-at : get_or (drop (b + 1) s) (length (drop (b + 1) s) - 1) 0 ≡ get_or s (length s - 1) 0
        last-at =
            let e : b + 1 + (length s - (b + 1) - 1) ≡ length s - 1 = omega arith in
            rw (length-drop, get_or-drop, e)

        end-at : has_three_parts (drop from s) ≡ (not (is_slash (get_or s (length s - 1) 0)) && clean (drop (b + 1) s))
        end-at =
            let e : non_empty (drop (b + 1) s) ≡ true = lt-ltb 0 (length (drop (b + 1) s)) (rw length-drop (omega arith)) in
            local-name-at ∙ rw (e, last-at)

        pub path-ends-in-slash : class_of (get_or s (length s - 1) 0) ≡ 3 → is_path (drop from s) ≡ false
        path-ends-in-slash e = path-not (drop from s) (end-at ∙ rw e)

        pub path-clean : (class_of (get_or s (length s - 1) 0) ≡ 3 → ⊥) → is_path (drop from s) ≡ clean (drop from s)
        unfolding is_path
        path-clean e =
            let p : List ℕ = drop from s in
            let f : behind_slash p ≡ drop (a + 1) s = A.after in
            let g : local_name p ≡ drop (b + 1) s = ap behind_slash f ∙ B.after in
            let h : has_three_parts p ≡ clean (drop (b + 1) s) = end-at ∙ rw (ne_eqb (class_of (get_or s (length s - 1) 0)) 3 e) in
            ap (λ (t : Bool). t && front_clean p) (h ∙ ap clean (sym g)) ∙ clean-parts p

-- ---- parents

pub parent_is : (s : List ℕ) → starts_with topic_scheme s ≡ true → is_parent s ≡ is_path (drop 8 s)
unfolding is_parent
parent_is s e = rw e

pub parent-not : (s : List ℕ) → starts_with topic_scheme s ≡ false → is_parent s ≡ false
unfolding is_parent
parent-not s e = rw e

-- a parent has a path
pub parent-long : (s : List ℕ) → is_parent s ≡ true → 8 ≤ length s
parent-long s e = go (starts_with topic_scheme s) refl
  where
    go : (t : Bool) → starts_with topic_scheme s ≡ t → 8 ≤ length s
    go true h = starts-long topic_scheme s h
    go false h = absurd (true≢false (sym e ∙ parent-not s h))
