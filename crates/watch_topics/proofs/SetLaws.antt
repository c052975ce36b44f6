-- Laws of rising lists of topics: members (`has-..`), what rises (`rising-..`), what is inserted or filtered, and that the members decide
-- such a list (`extensional`).
-- Assumes nothing.
use Prim.Native.Nat.{ℕ}
use mathlib.Core.Path.{◌≡◌, refl, sym, ap, ◌∙◌}
use mathlib.Core.Bool.{Bool, true, false, cond, ◌&&◌, ◌||◌, and-false, or_assoc, or-true, or-false, or_self_left, false≢true}
use mathlib.Core.List.{List, [], ◌∷◌, ◌++◌}
use Rattle.slice.specs.BoolLaws.{both, both_true}
use Rattle.slice.specs.Same.{same_bytes}
use Rattle.slice.proofs.SameLaws.{same_refl, same-eq}
use Rattle.keyed.specs.Keyed.{filter}
use Rattle.std.specs.declared.cmp.Ordering.{Ordering}
use Rattle.std.specs.declared.cmp.Ordering.TheVariants.{Less, Equal, Greater}
use Rattle.watch_topics.specs.Topics.{order, by_order, before, has, insert, insert_all, sorted, leads, rising}
use Rattle.watch_topics.proofs.OrderLaws.{order-equal, order_trans, greater-flip, same-less, same-greater, before-is, is-before}

-- ---- members

pub has_first : (u : List ℕ) (us : List (List ℕ)) → has u (u ∷ us) ≡ true
unfolding has
has_first u us = rw (same_refl u)

pub has-append : (t : List ℕ) (a b : List (List ℕ)) → has t (a ++ b) ≡ (has t a || has t b)
unfolding has
has-append t [] b = refl
has-append t (u ∷ a) b = rw (has-append t a b) (sym (or_assoc (same_bytes t u) (has t a) (has t b)))

-- a topic of the list is its first, or one behind it
pub has-cases : (t u : List ℕ) (us : List (List ℕ)) {P : Type 0} → has t (u ∷ us) ≡ true → (t ≡ u → P) → (has t us ≡ true → P) → P
unfolding has
has-cases t u us {P} e f g = go (same_bytes t u) refl e
  where
    go : (s : Bool) → same_bytes t u ≡ s → (s || has t us) ≡ true → P
    go true q h = f (same-eq t u q)
    go false q h = g h

-- ---- rising lists

pub rising-tail : (u : List ℕ) (us : List (List ℕ)) → rising (u ∷ us) ≡ true → rising us ≡ true
unfolding rising
rising-tail u us r = (both_true (leads u us) (rising us) r).1

pub rising-leads : (u : List ℕ) (us : List (List ℕ)) → rising (u ∷ us) ≡ true → leads u us ≡ true
unfolding rising
rising-leads u us r = (both_true (leads u us) (rising us) r).0

pub rising-cons : (u : List ℕ) (us : List (List ℕ)) → leads u us ≡ true → rising us ≡ true → rising (u ∷ us) ≡ true
unfolding rising
rising-cons u us l r = both (leads u us) (rising us) l r

pub rising-next : (u v : List ℕ) (vs : List (List ℕ)) → rising (u ∷ v ∷ vs) ≡ true → order u v ≡ Less
rising-next u v vs r = before-is u v (rising-leads u (v ∷ vs) r)

-- what stands before the first is not among them
pub has-before : (t : List ℕ) (us : List (List ℕ)) → leads t us ≡ true → rising us ≡ true → has t us ≡ false
unfolding has
has-before t [] l r = refl
has-before t (u ∷ []) l r = rw (same-less t u (before-is t u l))
has-before t (u ∷ v ∷ vs) l r =
    let e : order t u ≡ Less = before-is t u l in
    let k : before t v ≡ true = is-before t v (order_trans t u v e (rising-next u v vs r)) in
    rw (same-less t u e) (has-before t (v ∷ vs) k (rising-tail u (v ∷ vs) r))

pub not-again : (u : List ℕ) (us : List (List ℕ)) → rising (u ∷ us) ≡ true → has u us ≡ false
not-again u us r = has-before u us (rising-leads u us r) (rising-tail u us r)

-- the first stands before each of the others
pub first-before : (u : List ℕ) (us : List (List ℕ)) (t : List ℕ) → rising (u ∷ us) ≡ true → has t us ≡ true → order u t ≡ Less
unfolding has
first-before u [] t r h = absurd (false≢true h)
first-before u (v ∷ vs) t r h =
    let e : order u v ≡ Less = rising-next u v vs r in
    let k : rising (v ∷ vs) ≡ true = rising-tail u (v ∷ vs) r in
    has-cases t v vs h (λ q. ap (order u) q ∙ e) (λ q. order_trans u v t e (first-before v vs t k q))

-- ---- inserted

pub insert-less : (t u : List ℕ) (us : List (List ℕ)) → order t u ≡ Less → insert t (u ∷ us) ≡ t ∷ u ∷ us
unfolding insert
insert-less t u us e = rw e

pub insert-equal : (t u : List ℕ) (us : List (List ℕ)) → order t u ≡ Equal → insert t (u ∷ us) ≡ u ∷ us
unfolding insert
insert-equal t u us e = rw e

pub insert-greater : (t u : List ℕ) (us : List (List ℕ)) → order t u ≡ Greater → insert t (u ∷ us) ≡ u ∷ insert t us
unfolding insert
insert-greater t u us e = rw e

or_swap : (a b c : Bool) → (a || (b || c)) ≡ (b || (a || c))
or_swap true true c = refl
or_swap true false c = refl
or_swap false b c = refl

pub has-insert : (u t : List ℕ) (l : List (List ℕ)) → has u (insert t l) ≡ (same_bytes u t || has u l)
unfolding insert has
has-insert u t [] = refl
has-insert u t (v ∷ vs) = go (order t v) refl (has-insert u t vs)
  where
    go : (o : Ordering) → order t v ≡ o → has u (insert t vs) ≡ (same_bytes u t || has u vs)
        → has u (by_order (order t v) (t ∷ v ∷ vs) (v ∷ vs) (v ∷ insert t vs)) ≡ (same_bytes u t || (same_bytes u v || has u vs))
    go Less e h = rw e
    go Equal e h = rw (e, order-equal t v e) (sym (or_self_left (same_bytes u v) (has u vs)))
    go Greater e h = rw (e, h) (or_swap (same_bytes u v) (same_bytes u t) (has u vs))

leads-insert : (v t : List ℕ) (us : List (List ℕ)) → order v t ≡ Less → leads v us ≡ true → leads v (insert t us) ≡ true
unfolding insert
leads-insert v t [] e l = rw e
leads-insert v t (w ∷ ws) e l = go (order t w) refl
  where
    go : (o : Ordering) → order t w ≡ o → leads v (by_order (order t w) (t ∷ w ∷ ws) (w ∷ ws) (w ∷ insert t ws)) ≡ true
    go Less f = rw f (is-before v t e)
    go Equal f = rw f l
    go Greater f = rw f l

pub rising-insert : (t : List ℕ) (l : List (List ℕ)) → rising l ≡ true → rising (insert t l) ≡ true
unfolding insert
rising-insert t [] r = rising-cons t [] refl r
rising-insert t (u ∷ us) r = go (order t u) refl (rising-insert t us (rising-tail u us r))
  where
    go : (o : Ordering) → order t u ≡ o → rising (insert t us) ≡ true
        → rising (by_order (order t u) (t ∷ u ∷ us) (u ∷ us) (u ∷ insert t us)) ≡ true
    go Less e h = rw e (rising-cons t (u ∷ us) (is-before t u e) r)
    go Equal e h = rw e r
    go Greater e h = rw e (rising-cons u (insert t us) (leads-insert u t us (greater-flip t u e) (rising-leads u us r)) h)

pub insert-there : (t : List ℕ) (l : List (List ℕ)) → rising l ≡ true → has t l ≡ true → insert t l ≡ l
unfolding insert has
insert-there t [] r h = absurd (false≢true h)
insert-there t (u ∷ us) r h = go (order t u) refl (insert-there t us (rising-tail u us r))
  where
    go : (o : Ordering) → order t u ≡ o → (has t us ≡ true → insert t us ≡ us)
        → by_order (order t u) (t ∷ u ∷ us) (u ∷ us) (u ∷ insert t us) ≡ u ∷ us
    go Less e ih = absurd (false≢true (sym (has-before t (u ∷ us) (is-before t u e) r) ∙ h))
    go Equal e ih = rw e
    go Greater e ih =
        let k : has t us ≡ true =
        has-cases t u us h (λ q. absurd (false≢true (sym (same-greater t u e) ∙ ap (same_bytes t) (sym q) ∙ same_refl t))) (λ q. q) in
        rw (e, ih k)

-- each of a list inserted

pub rising-insert_all : (ts l : List (List ℕ)) → rising l ≡ true → rising (insert_all ts l) ≡ true
unfolding insert_all
rising-insert_all [] l r = r
rising-insert_all (t ∷ ts) l r = rising-insert_all ts (insert t l) (rising-insert t l r)

pub has-insert_all : (u : List ℕ) (ts l : List (List ℕ)) → has u (insert_all ts l) ≡ (has u ts || has u l)
unfolding insert_all has
has-insert_all u [] l = refl
has-insert_all u (t ∷ ts) l =
    has-insert_all u ts (insert t l)
    ∙ rw (has-insert u t l) (or_swap (has u ts) (same_bytes u t) (has u l) ∙ sym (or_assoc (same_bytes u t) (has u ts) (has u l)))

pub rising-nil : rising [] ≡ true
unfolding rising
rising-nil = refl

pub rising-sorted : (ts : List (List ℕ)) → rising (sorted ts) ≡ true
rising-sorted ts = rising-insert_all ts [] rising-nil

pub has-sorted : (u : List ℕ) (ts : List (List ℕ)) → has u (sorted ts) ≡ has u ts
unfolding has
has-sorted u ts = has-insert_all u ts [] ∙ or-false (has u ts)

-- ---- filtered

pub has-filter : (p : List ℕ → Bool) (t : List ℕ) (l : List (List ℕ)) → has t (filter p l) ≡ (has t l && p t)
unfolding has
has-filter p t [] = refl
has-filter p t (u ∷ us) = go (p u) refl (same_bytes t u) refl (has-filter p t us)
  where
    go : (b : Bool) → p u ≡ b → (s : Bool) → same_bytes t u ≡ s → has t (filter p us) ≡ (has t us && p t)
        → has t (cond (p u) (u ∷ filter p us) (filter p us)) ≡ ((same_bytes t u || has t us) && p t)
    go true e true f h = let k : p t ≡ true = ap p (same-eq t u f) ∙ e in rw (e, f, k)
    go true e false f h = rw (e, f) h
    go false e true f h = let k : p t ≡ false = ap p (same-eq t u f) ∙ e in rw (e, f, h, k) (and-false (has t us))
    go false e false f h = rw (e, f) h

leads-filter : (p : List ℕ → Bool) (t : List ℕ) (l : List (List ℕ)) → leads t l ≡ true → rising l ≡ true → leads t (filter p l) ≡ true
leads-filter p t [] l r = refl
leads-filter p t (u ∷ us) l r = go (p u) refl us r (λ k. leads-filter p t us k (rising-tail u us r))
  where
    go : (b : Bool) → p u ≡ b → (vs : List (List ℕ)) → rising (u ∷ vs) ≡ true → (leads t vs ≡ true → leads t (filter p vs) ≡ true)
        → leads t (cond (p u) (u ∷ filter p vs) (filter p vs)) ≡ true
    go true e vs r h = rw e l
    go false e [] r h = rw e
    go false e (v ∷ vs) r h = rw e (h (is-before t v (order_trans t u v (before-is t u l) (rising-next u v vs r))))

pub rising-filter : (p : List ℕ → Bool) (l : List (List ℕ)) → rising l ≡ true → rising (filter p l) ≡ true
rising-filter p [] r = r
rising-filter p (u ∷ us) r = go (p u) refl (rising-filter p us (rising-tail u us r))
  where
    go : (b : Bool) → p u ≡ b → rising (filter p us) ≡ true → rising (cond (p u) (u ∷ filter p us) (filter p us)) ≡ true
    go true e h = rw e (rising-cons u (filter p us) (leads-filter p u us (rising-leads u us r) (rising-tail u us r)) h)
    go false e h = rw e h

-- tests that agree on the members keep the same
pub filter_alike : (p q : List ℕ → Bool) (l : List (List ℕ)) → ((t : List ℕ) → has t l ≡ true → p t ≡ q t) → filter p l ≡ filter q l
unfolding has
filter_alike p q [] h = refl
filter_alike p q (u ∷ us) h =
    let e : filter p us ≡ filter q us = filter_alike p q us (λ t k. h t (rw k (or-true (same_bytes t u)))) in
    rw (h u (has_first u us), e)

pub filter-append : (p : List ℕ → Bool) (a b : List (List ℕ)) → filter p (a ++ b) ≡ filter p a ++ filter p b
filter-append p [] b = refl
filter-append p (u ∷ a) b = go (p u) (filter-append p a b)
  where
    go : (c : Bool) → filter p (a ++ b) ≡ filter p a ++ filter p b
        → cond c (u ∷ filter p (a ++ b)) (filter p (a ++ b)) ≡ cond c (u ∷ filter p a) (filter p a) ++ filter p b
    go true h = rw h
    go false h = h

-- ---- the members decide

pub extensional : (a b : List (List ℕ)) → rising a ≡ true → rising b ≡ true → ((t : List ℕ) → has t a ≡ has t b) → a ≡ b
unfolding has
extensional [] [] r s h = refl
extensional [] (v ∷ vs) r s h = absurd (false≢true (h v ∙ has_first v vs))
extensional (u ∷ us) [] r s h = absurd (false≢true (sym (h u) ∙ has_first u us))
extensional (u ∷ us) (v ∷ vs) r s h = go (order u v) refl (λ k. extensional us vs (rising-tail u us r) (rising-tail v vs s) k)
  where
    tails : u ≡ v → (t : List ℕ) → has t us ≡ has t vs
    tails e t = at (same_bytes t u) refl
      where
        at : (b : Bool) → same_bytes t u ≡ b → has t us ≡ has t vs
        at true f =
            let x : t ≡ u = same-eq t u f in
            (ap (λ (z : List ℕ). has z us) x ∙ not-again u us r) ∙ sym (ap (λ (z : List ℕ). has z vs) (x ∙ e) ∙ not-again v vs s)
        at false f =
            let g : same_bytes t v ≡ false = ap (same_bytes t) (sym e) ∙ f in
            ap (λ (b : Bool). b || has t us) (sym f) ∙ h t ∙ ap (λ (b : Bool). b || has t vs) g

    go : (o : Ordering) → order u v ≡ o → (((t : List ℕ) → has t us ≡ has t vs) → us ≡ vs) → u ∷ us ≡ v ∷ vs
    go Less e k = absurd (false≢true (sym (has-before u (v ∷ vs) (is-before u v e) s) ∙ sym (h u) ∙ has_first u us))
    go Equal e k = let x : u ≡ v = order-equal u v e in let y : us ≡ vs = k (tails x) in cc
    go Greater e k = absurd (false≢true (sym (has-before v (u ∷ us) (is-before v u (greater-flip u v e)) r) ∙ h v ∙ has_first v vs))

-- it does not matter in which order topics are inserted, nor how often
pub insert_all-alike : (xs ys l : List (List ℕ)) → rising l ≡ true → ((t : List ℕ) → has t xs ≡ has t ys) → insert_all xs l ≡ insert_all ys l
insert_all-alike xs ys l r h =
    extensional (insert_all xs l) (insert_all ys l) (rising-insert_all xs l r) (rising-insert_all ys l r)
    (λ t. has-insert_all t xs l ∙ ap (λ (b : Bool). b || has t l) (h t) ∙ sym (has-insert_all t ys l))

pub sorted-rising : (ts : List (List ℕ)) → rising ts ≡ true → sorted ts ≡ ts
sorted-rising ts r = extensional (sorted ts) ts (rising-sorted ts) r (λ t. has-sorted t ts)
