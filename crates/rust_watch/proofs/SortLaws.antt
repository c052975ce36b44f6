-- The Rust's `sort` of a vector in which no topic comes twice: it is the rising list of its topics (`sort-is`).
-- Assumes nothing.
use mathlib.Core.Path.{◌≡◌, refl, sym, ap, ◌∙◌}
use mathlib.Core.Bool.{Bool, true, false, cond, ◌||◌, or-false, false≢true}
use mathlib.Core.List.{List, [], ◌∷◌, ◌++◌}
use Rattle.slice.specs.Same.{same_bytes}
use Rattle.slice.proofs.SameLaws.{same_refl, same-eq}
use Rattle.std.specs.declared.cmp.Ordering.{Ordering}
use Rattle.std.specs.declared.cmp.Ordering.TheVariants.{Less, Equal, Greater}
use Rattle.watch_topics.specs.Topics.{order, by_order, has, insert, insert_all, sorted}
use Rattle.watch_topics.proofs.OrderLaws.{order-equal}
use Rattle.watch_topics.proofs.SetLaws.{has-append, has-insert, rising-insert, rising-sorted, has-sorted, extensional}
use Rattle.rust_magnetar.specs.Text.{Text}
use Rattle.rust_magnetar.specs.Order.{is_le, str-cmp}
use Rattle.rust_magnetar.specs.Collections.{insert-by}
use Rattle.rust_magnetar.specs.Watch.{sort}
use Rattle.rust_watch.proofs.SetAgrees.{by_agrees}

-- ---- equality of texts

pub same-sym : (a b : Text) → same_bytes a b ≡ same_bytes b a
same-sym a b = go (same_bytes a b) refl (same_bytes b a) refl
  where
    go : (s : Bool) → same_bytes a b ≡ s → (t : Bool) → same_bytes b a ≡ t → same_bytes a b ≡ same_bytes b a
    go true e true f = e ∙ sym f
    go false e false f = e ∙ sym f
    go true e false f = absurd (false≢true (sym f ∙ ap (same_bytes b) (same-eq a b e) ∙ same_refl b))
    go false e true f = absurd (false≢true (sym e ∙ ap (same_bytes a) (same-eq b a f) ∙ same_refl a))

-- ---- vectors in which no topic comes twice

abbrev pub Distinct : List Text → Type 0
Distinct [] = Unit {0}
Distinct (t ∷ ts) = (has t ts ≡ false) × Distinct ts

pub has-snoc : (u t : Text) (p : List Text) → has u (p ++ (t ∷ [])) ≡ (has u p || same_bytes u t)
unfolding has
has-snoc u t p = has-append u p (t ∷ []) ∙ ap (λ (b : Bool). has u p || b) (or-false (same_bytes u t))

neither : (a b : Bool) → (a || b) ≡ false → (a ≡ false) × (b ≡ false)
neither true b e = (e, absurd (false≢true (sym e)))
neither false b e = (refl, e)

-- one that is not there is pushed
pub distinct_snoc : (p : List Text) (t : Text) → Distinct p → has t p ≡ false → Distinct (p ++ (t ∷ []))
unfolding has
distinct_snoc [] t d h = (refl, tt)
distinct_snoc (u ∷ us) t d h =
    let q = neither (same_bytes t u) (has t us) h in
    let e : has u (us ++ (t ∷ [])) ≡ false = has-snoc u t us ∙ rw (d.0, same-sym u t, q.0) in
    (e, distinct_snoc us t d.1 q.1)

-- ---- sorted

abbrev at_most : Text → Text → Bool
at_most a b = is_le (str-cmp a b)

place_is : (t : Text) (l : List Text) → has t l ≡ false → insert-by at_most t l ≡ insert t l
unfolding insert has
place_is t [] h = refl
place_is t (u ∷ us) h =
    ap (λ (b : Bool). cond b (t ∷ u ∷ us) (u ∷ insert-by at_most t us)) (by_agrees t u true true false)
    ∙ go (order t u) refl (place_is t us (neither (same_bytes t u) (has t us) h).1)
  where
    go : (o : Ordering) → order t u ≡ o → insert-by at_most t us ≡ insert t us
        → cond (by_order o true true false) (t ∷ u ∷ us) (u ∷ insert-by at_most t us)
        ≡ by_order o (t ∷ u ∷ us) (u ∷ us) (u ∷ insert t us)
    go Less e k = refl
    go Equal e k =
        absurd (false≢true (sym (neither (same_bytes t u) (has t us) h).0 ∙ ap (same_bytes t) (sym (order-equal t u e)) ∙ same_refl t))
    go Greater e k = ap (λ (l : List Text). u ∷ l) k

sorted-cons : (t : Text) (ts : List Text) → insert t (sorted ts) ≡ sorted (t ∷ ts)
unfolding has
sorted-cons t ts =
    extensional (insert t (sorted ts)) (sorted (t ∷ ts)) (rising-insert t (sorted ts) (rising-sorted ts)) (rising-sorted (t ∷ ts))
    (λ u. has-insert u t (sorted ts) ∙ ap (λ (b : Bool). same_bytes u t || b) (has-sorted u ts) ∙ sym (has-sorted u (t ∷ ts)))

pub sort-is : (l : List Text) → Distinct l → sort l ≡ sorted l
unfolding insert_all
sort-is [] d = refl
sort-is (t ∷ ts) d =
    ap (insert-by at_most t) (sort-is ts d.1) ∙ place_is t (sorted ts) (has-sorted t ts ∙ d.0) ∙ sorted-cons t ts
