-- The Rust's order of strings and its sets of them are this port's: compared (`by_agrees`, `eq-agrees`); a topic in a
-- set (`contains-agrees`), inserted (`insert-agrees`) and removed (`remove-agrees`), and a list inserted
-- (`extend-agrees`).
-- Assumes nothing.
use native.Mathlib.Omega.{arith}
use mathlib.Core.Path.{◌≡◌, refl, sym, ap, ◌∙◌}
use mathlib.Core.Bool.{Bool, true, false, cond, not}
use mathlib.Core.List.{List, [], ◌∷◌}
use lib.Dec.{eqb, ltb}
use borrow.Author.Tests.{ltb-false, eqb-true, eqb-false, lt-ltb, le-ltb}
use Rattle.slice.specs.Same.{same_bytes}
use Rattle.keyed.specs.Keyed as keyed
use Rattle.std.specs.declared.cmp.Ordering as std
use Rattle.std.specs.declared.cmp.Ordering.TheVariants as port
use Rattle.watch_topics.specs.Topics.{order, by_order, has, insert, insert_all}
use Rattle.watch_topics.proofs.OrderLaws.{same-order}
use Rattle.rust_magnetar.specs.Text.{Text}
use Rattle.rust_magnetar.specs.Order.{Ordering, Less, Equal, Greater, by_ordering, is_eq, then, str-cmp}
use Rattle.rust_magnetar.specs.BTree.{BTreeSet-contains, BTreeSet-insert, BTreeSet-remove, BTreeSet-extend}

-- ---- compared

abbrev as_order : Ordering → std.Ordering
as_order Less = port.Less
as_order Equal = port.Equal
as_order Greater = port.Greater

cmp-agrees : (a b : Text) → order a b ≡ as_order (str-cmp a b)
unfolding order
cmp-agrees [] [] = refl
cmp-agrees [] (y ∷ ys) = refl
cmp-agrees (x ∷ xs) [] = refl
cmp-agrees (x ∷ xs) (y ∷ ys) = go (ltb x y) refl (eqb x y) refl (cmp-agrees xs ys)
  where
    go : (t : Bool) → ltb x y ≡ t → (u : Bool) → eqb x y ≡ u → order xs ys ≡ as_order (str-cmp xs ys)
        → cond t port.Less (cond (ltb y x) port.Greater (order xs ys))
        ≡ as_order (then (cond t Less (cond u Equal Greater)) (str-cmp xs ys))
    go true e u f ih = refl
    go false e true f ih = rw (le-ltb y x (omega (arith, eqb-true x y f))) ih
    go false e false f ih = rw (lt-ltb y x (omega (arith, ltb-false x y e, eqb-false x y f)))

pub by_agrees : {A : Type 0} (a b : Text) (x y z : A) → by_ordering (str-cmp a b) x y z ≡ by_order (order a b) x y z
by_agrees a b x y z = sym (rw (cmp-agrees a b) (go (str-cmp a b)))
  where
    go : (o : Ordering) → by_order (as_order o) x y z ≡ by_ordering o x y z
    go Less = refl
    go Equal = refl
    go Greater = refl

pub eq-agrees : (a b : Text) → is_eq (str-cmp a b) ≡ same_bytes a b
eq-agrees a b = by_agrees a b false true false ∙ sym (same-order a b)

-- ---- sets

pub contains-agrees : (t : Text) (l : List Text) → BTreeSet-contains str-cmp t l ≡ has t l
unfolding has
contains-agrees t [] = refl
contains-agrees t (u ∷ us) = rw (eq-agrees t u, contains-agrees t us)

pub insert-agrees : (t : Text) (l : List Text) → BTreeSet-insert str-cmp t l ≡ insert t l
unfolding insert
insert-agrees t [] = refl
insert-agrees t (u ∷ us) = rw (insert-agrees t us) (by_agrees t u (t ∷ (u ∷ us)) (u ∷ us) (u ∷ insert t us))

pub extend-agrees : (ts l : List Text) → BTreeSet-extend str-cmp l ts ≡ insert_all ts l
unfolding insert_all
extend-agrees [] l = refl
extend-agrees (t ∷ ts) l = extend-agrees ts (BTreeSet-insert str-cmp t l) ∙ ap (insert_all ts) (insert-agrees t l)

-- the set without t
abbrev pub remove : Text → List Text → List Text
remove t l = keyed.filter (λ u. not (same_bytes t u)) l

pub remove-agrees : (t : Text) (l : List Text) → BTreeSet-remove str-cmp t l ≡ remove t l
remove-agrees t [] = refl
remove-agrees t (u ∷ us) = rw (eq-agrees t u, remove-agrees t us)
