-- Where a topic stands in a rising list: behind the topics before it (`lower`), in front of the others (`upper`). `topic_place` answers the size
-- of `lower` (`place_at`) and whether the topic is there (`place-has`); insertions by the two parts (`insert-absent`, `insert_all-behind`).
-- Assumes nothing.
use Prim.Native.Nat.{ℕ, ◌+◌, ◌≤◌}
use native.Mathlib.Omega.{arith}
use mathlib.Core.Path.{◌≡◌, refl, sym, ap, ◌∙◌}
use mathlib.Core.Bool.{Bool, true, false, ◌||◌, false≢true, true≢false}
use mathlib.Core.List.{List, [], ◌∷◌, ◌++◌}
use lib.ListN.{length, take, drop}
use Rattle.slice.specs.Same.{same_bytes}
use Rattle.slice.proofs.SameLaws.{same_refl, same-eq}
use Rattle.slice.proofs.PartLaws.{Bytes}
use Rattle.std.specs.declared.cmp.Ordering.{Ordering}
use Rattle.std.specs.declared.cmp.Ordering.TheVariants.{Less, Equal, Greater}
use Rattle.watch_topics.specs.declared.Place.{Place}
use Rattle.watch_topics.specs.Topics.{order, by_order, has, insert, insert_all, leads, rising}
use Rattle.watch_topics.specs.Packed.{encode_topics, size_topics, decode_topics, is_whole, topic_place}
use Rattle.watch_topics.proofs.OrderLaws.{greater-equal, order-equal, order-refl, less-flip, greater-trans, same-greater, is-before}
use Rattle.watch_topics.proofs.SetLaws.{has-before, has_first, has-cases, rising-tail, rising-next, insert-greater}
use Rattle.watch_topics.proofs.PackedLaws.{size-parts, front_bytes, rest-topics, rest-whole}

-- the topics in front of the place of t, and those behind
unfoldable pub lower : List ℕ → List (List ℕ) → List (List ℕ)
lower t [] = []
lower t (u ∷ us) = by_order (order t u) [] [] (u ∷ lower t us)

unfoldable pub upper : List ℕ → List (List ℕ) → List (List ℕ)
upper t [] = []
upper t (u ∷ us) = by_order (order t u) (u ∷ us) (u ∷ us) (upper t us)

pub lower-upper : (t : List ℕ) (l : List (List ℕ)) → l ≡ lower t l ++ upper t l
unfolding lower upper
lower-upper t [] = refl
lower-upper t (u ∷ us) = go (order t u) refl (lower-upper t us)
  where
    go : (o : Ordering) → order t u ≡ o → us ≡ lower t us ++ upper t us
        → u ∷ us ≡ by_order (order t u) [] [] (u ∷ lower t us) ++ by_order (order t u) (u ∷ us) (u ∷ us) (upper t us)
    go Less e h = rw e
    go Equal e h = rw e
    go Greater e h = rw e (ap (λ (l : List (List ℕ)). u ∷ l) h)

-- ---- what `topic_place` answers

pub place_at : (t : List ℕ) (at : ℕ) (l : List (List ℕ)) → (topic_place t at l).at ≡ at + size_topics (lower t l)
unfolding topic_place lower size_topics
place_at t at [] = omega arith
place_at t at (u ∷ us) = go (order t u) refl (topic_place t (at + (2 + length u)) us) (place_at t (at + (2 + length u)) us)
  where
    go : (o : Ordering) → order t u ≡ o → (q : Place) → q.at ≡ at + (2 + length u) + size_topics (lower t us)
        → (by_order (order t u) (record { at = at; present = false }) (record { at = at; present = true }) q).at
        ≡ at + size_topics (by_order (order t u) [] [] (u ∷ lower t us))
    go Less e q h = rw e (omega arith)
    go Equal e q h = rw e (omega arith)
    go Greater e q h = rw e (omega arith)

pub place-has : (t : List ℕ) (at : ℕ) (l : List (List ℕ)) → rising l ≡ true → (topic_place t at l).present ≡ has t l
unfolding topic_place has
place-has t at [] r = refl
place-has t at (u ∷ us) r =
    go (order t u) refl (topic_place t (at + (2 + length u)) us) (place-has t (at + (2 + length u)) us (rising-tail u us r))
  where
    go : (o : Ordering) → order t u ≡ o → (q : Place) → q.present ≡ has t us
        → (by_order (order t u) (record { at = at; present = false }) (record { at = at; present = true }) q).present
        ≡ (same_bytes t u || has t us)
    go Less e q h = let g : (same_bytes t u || has t us) ≡ false = has-before t (u ∷ us) (is-before t u e) r in rw (e, g)
    go Equal e q h = rw (e, order-equal t u e, same_refl u)
    go Greater e q h = rw (e, same-greater t u e) h

-- ---- members of the two parts

-- each stands before t
abbrev pub Below : List ℕ → List (List ℕ) → Type 0
Below t [] = Unit {0}
Below t (u ∷ us) = (order t u ≡ Greater) × Below t us

pub lower-below : (t : List ℕ) (l : List (List ℕ)) → Below t (lower t l)
unfolding lower
lower-below t [] = tt
lower-below t (u ∷ us) = go (order t u) refl (lower-below t us)
  where
    go : (o : Ordering) → order t u ≡ o → Below t (lower t us) → Below t (by_order (order t u) [] [] (u ∷ lower t us))
    go Less e h = rw e tt
    go Equal e h = rw e tt
    go Greater e h = rw e (e, h)

pub below_in : (t : List ℕ) (l : List (List ℕ)) (u : List ℕ) → Below t l → has u l ≡ true → order t u ≡ Greater
unfolding has
below_in t [] u b h = absurd (false≢true h)
below_in t (v ∷ vs) u b h = has-cases u v vs h (λ q. ap (order t) q ∙ b.0) (λ q. below_in t vs u b.1 q)

-- what is not before t is not among those before t
pub below-not : (t u : List ℕ) (l : List (List ℕ)) → Below t l → (order t u ≡ Greater → ⊥) → has u l ≡ false
below-not t u l b n = go (has u l) refl
  where
    go : (s : Bool) → has u l ≡ s → has u l ≡ false
    go true e = absurd (n (below_in t l u b e))
    go false e = e

pub below-trans : (t n : List ℕ) (l : List (List ℕ)) → Below t l → order n t ≡ Greater → Below n l
below-trans t n [] b e = tt
below-trans t n (u ∷ us) b e = (greater-trans n t u e b.0, below-trans t n us b.1 e)

pub below-append : (t : List ℕ) (a c : List (List ℕ)) → Below t a → Below t c → Below t (a ++ c)
below-append t [] c x y = y
below-append t (u ∷ a) c x y = (x.0, below-append t a c x.1 y)

-- a topic that is not before t is in the list where it is in its upper part
pub has-upper : (t u : List ℕ) (l : List (List ℕ)) → (order t u ≡ Greater → ⊥) → has u (upper t l) ≡ has u l
unfolding upper has
has-upper t u [] n = refl
has-upper t u (v ∷ vs) n = go (order t v) refl (has-upper t u vs n)
  where
    go : (o : Ordering) → order t v ≡ o → has u (upper t vs) ≡ has u vs
        → has u (by_order (order t v) (v ∷ vs) (v ∷ vs) (upper t vs)) ≡ (same_bytes u v || has u vs)
    go Less e h = rw e
    go Equal e h = rw e
    go Greater e h =
        let k : same_bytes u v ≡ false = differ (same_bytes u v) refl in
        rw (e, k) h
      where
        differ : (s : Bool) → same_bytes u v ≡ s → same_bytes u v ≡ false
        differ true f = absurd (n (ap (order t) (same-eq u v f) ∙ e))
        differ false f = f

pub rising-upper : (t : List ℕ) (l : List (List ℕ)) → rising l ≡ true → rising (upper t l) ≡ true
unfolding upper
rising-upper t [] r = r
rising-upper t (u ∷ us) r = go (order t u) refl (rising-upper t us (rising-tail u us r))
  where
    go : (o : Ordering) → order t u ≡ o → rising (upper t us) ≡ true → rising (by_order (order t u) (u ∷ us) (u ∷ us) (upper t us)) ≡ true
    go Less e h = rw e r
    go Equal e h = rw e r
    go Greater e h = rw e h

-- a topic of the list is the first of its upper part
pub upper-present : (t : List ℕ) (l : List (List ℕ)) → rising l ≡ true → has t l ≡ true → (us : List (List ℕ)) × (upper t l ≡ t ∷ us)
unfolding upper has
upper-present t [] r h = absurd (false≢true h)
upper-present t (u ∷ us) r h = go (order t u) refl (upper-present t us (rising-tail u us r))
  where
    on : order t u ≡ Greater → (vs : List (List ℕ)) × (upper t us ≡ t ∷ vs)
        → (vs : List (List ℕ)) × (by_order (order t u) (u ∷ us) (u ∷ us) (upper t us) ≡ t ∷ vs)
    on e (vs, q) = (vs, rw e q)

    go : (o : Ordering) → order t u ≡ o → (has t us ≡ true → (vs : List (List ℕ)) × (upper t us ≡ t ∷ vs))
        → (vs : List (List ℕ)) × (by_order (order t u) (u ∷ us) (u ∷ us) (upper t us) ≡ t ∷ vs)
    go Less e ih = absurd (false≢true (sym (has-before t (u ∷ us) (is-before t u e) r) ∙ h))
    go Equal e ih = (us, rw (e, order-equal t u e))
    go Greater e ih =
        let k : has t us ≡ true = has-cases t u us h (λ q. absurd (greater-equal (sym e ∙ ap (order t) (sym q) ∙ order-refl t))) (λ q. q) in
        on e (ih k)

-- one that is not in the list stands before them
pub upper-absent : (t : List ℕ) (l : List (List ℕ)) → has t l ≡ false → leads t (upper t l) ≡ true
unfolding upper has
upper-absent t [] h = refl
upper-absent t (u ∷ us) h = go (order t u) refl (upper-absent t us)
  where
    go : (o : Ordering) → order t u ≡ o → (has t us ≡ false → leads t (upper t us) ≡ true)
        → leads t (by_order (order t u) (u ∷ us) (u ∷ us) (upper t us)) ≡ true
    go Less e ih = rw e (is-before t u e)
    go Equal e ih = absurd (true≢false (sym (has_first u us) ∙ ap (λ (x : List ℕ). has x (u ∷ us)) (sym (order-equal t u e)) ∙ h))
    go Greater e ih = rw e (ih (sym (ap (λ (b : Bool). b || has t us) (same-greater t u e)) ∙ h))

-- ---- insertions

pub insert-absent : (t : List ℕ) (l : List (List ℕ)) → has t l ≡ false → insert t l ≡ lower t l ++ (t ∷ upper t l)
unfolding insert lower upper has
insert-absent t [] h = refl
insert-absent t (u ∷ us) h = go (order t u) refl (insert-absent t us)
  where
    go : (o : Ordering) → order t u ≡ o → (has t us ≡ false → insert t us ≡ lower t us ++ (t ∷ upper t us))
        → by_order (order t u) (t ∷ u ∷ us) (u ∷ us) (u ∷ insert t us)
        ≡ by_order (order t u) [] [] (u ∷ lower t us) ++ (t ∷ by_order (order t u) (u ∷ us) (u ∷ us) (upper t us))
    go Less e ih = rw e
    go Equal e ih = absurd (true≢false (sym (has_first u us) ∙ ap (λ (x : List ℕ). has x (u ∷ us)) (sym (order-equal t u e)) ∙ h))
    go Greater e ih =
        rw e (ap (λ (l : List (List ℕ)). u ∷ l) (ih (sym (ap (λ (b : Bool). b || has t us) (same-greater t u e)) ∙ h)))

pub insert-behind : (t : List ℕ) (a c : List (List ℕ)) → Below t a → insert t (a ++ c) ≡ a ++ insert t c
insert-behind t [] c b = refl
insert-behind t (u ∷ a) c b = insert-greater t u (a ++ c) b.0 ∙ ap (λ (l : List (List ℕ)). u ∷ l) (insert-behind t a c b.1)

-- the first of a list stands behind each of a
abbrev pub FirstBehind : List (List ℕ) → List (List ℕ) → Type 0
FirstBehind [] a = Unit {0}
FirstBehind (t ∷ ts) a = Below t a

pub insert_all-behind : (ts a c : List (List ℕ)) → rising ts ≡ true → FirstBehind ts a → insert_all ts (a ++ c) ≡ a ++ insert_all ts c
unfolding insert_all
insert_all-behind [] a c r b = refl
insert_all-behind (t ∷ ts) a c r b =
    ap (insert_all ts) (insert-behind t a c b) ∙ insert_all-behind ts a (insert t c) (rising-tail t ts r) (next ts r)
  where
    next : (ts : List (List ℕ)) → rising (t ∷ ts) ≡ true → FirstBehind ts a
    next [] r = tt
    next (n ∷ ns) r = below-trans t n a b (less-flip t n (rising-next t n ns r))

-- ---- the two parts of packed bytes

module _ (s : List ℕ) (b : Bytes s) (w : is_whole s ≡ true) (t : List ℕ) where
  abbrev place : ℕ
  place = size_topics (lower t (decode_topics s))

  pub lower-within : place ≤ length s
  lower-within = omega (arith, size-parts s b w (lower t (decode_topics s)) (upper t (decode_topics s)) (lower-upper t (decode_topics s)))

  pub lower-bytes : take place s ≡ encode_topics (lower t (decode_topics s))
  lower-bytes = front_bytes s b w (lower t (decode_topics s)) (upper t (decode_topics s)) (lower-upper t (decode_topics s))

  pub upper-topics : decode_topics (drop place s) ≡ upper t (decode_topics s)
  upper-topics = rest-topics s b w (lower t (decode_topics s)) (upper t (decode_topics s)) (lower-upper t (decode_topics s))

  pub upper-whole : is_whole (drop place s) ≡ true
  upper-whole = rest-whole s b w (lower t (decode_topics s)) (upper t (decode_topics s)) (lower-upper t (decode_topics s))
