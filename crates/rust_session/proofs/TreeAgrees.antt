-- The Rust's sets and maps by segment id are lists by key as this port has them: a set of ids (`contains-agrees`,
-- `insert-agrees`), and a map of entries (`map-insert-agrees`); and its `filter` is this port's (`filter-agrees`).
-- Assumes nothing.
use Rattle.std.specs.Prelude.{Some}
use Prim.Native.Nat.{ℕ}
use native.Mathlib.Omega.{arith}
use mathlib.Core.Path.{◌≡◌, refl, ap, sym, ◌∙◌}
use mathlib.Core.Bool.{Bool, true, false, cond, ◌||◌}
use mathlib.Core.List.{List, [], ◌∷◌}
use lib.Dec.{eqb, ltb}
use borrow.Author.Tests.{ltb-true, eqb-true, ne_eqb}
use Rattle.topic_types.specs.declared.SegmentId.{SegmentId}
use Rattle.keyed.specs.Keyed as keyed
use Rattle.keyed.specs.Keyed.{is_some, find, holds, insert}
use Rattle.rust_magnetar.specs.Order.{Less, Equal, Greater, by_ordering, is_eq, number-cmp}
use Rattle.rust_magnetar.specs.Collections.{filter}
use Rattle.rust_magnetar.specs.BTree.{Entry, entry, BTreeSet-contains, BTreeSet-insert, BTreeMap-insert}
use Rattle.rust_magnetar.specs.Assignment.{AssignedSegment, SegmentId-cmp}

-- ---- numbers compared

pub eq_test : (a b : ℕ) → is_eq (number-cmp a b) ≡ eqb a b
eq_test a b = go (ltb a b) refl (eqb a b) refl
  where
    go : (t : Bool) → ltb a b ≡ t → (u : Bool) → eqb a b ≡ u → is_eq (cond t Less (cond u Equal Greater)) ≡ u
    go true e u f = sym (ne_eqb a b (λ q. omega (arith, ltb-true a b e))) ∙ f
    go false e true f = refl
    go false e false f = refl

by-test : {A : Type 0} (a b : ℕ) (x y z : A) → by_ordering (number-cmp a b) x y z ≡ cond (ltb a b) x (cond (eqb a b) y z)
by-test a b x y z = go (ltb a b) (eqb a b)
  where
    go : (t u : Bool) → by_ordering (cond t Less (cond u Equal Greater)) x y z ≡ cond t x (cond u y z)
    go true u = refl
    go false true = refl
    go false false = refl

-- ids of one number are one id
same_id : (a b : SegmentId) → eqb a.0 b.0 ≡ true → a ≡ b
same_id a b e = ap (λ (n : ℕ). record { 0 = n }) (eqb-true a.0 b.0 e)

-- ---- a set of ids

abbrev pub id-key : SegmentId → ℕ
id-key id = id.0

pub contains-agrees : (id : SegmentId) (ids : List SegmentId) → BTreeSet-contains SegmentId-cmp id ids ≡ holds id-key id.0 ids
contains-agrees id [] = refl
contains-agrees id (x ∷ ids) = rw (eq_test id.0 x.0, contains-agrees id ids) (go (eqb id.0 x.0))
  where
    go : (t : Bool) → (t || is_some (find id-key id.0 ids)) ≡ is_some (cond t (Some x) (find id-key id.0 ids))
    go true = refl
    go false = refl

pub insert-agrees : (id : SegmentId) (ids : List SegmentId) → BTreeSet-insert SegmentId-cmp id ids ≡ insert id-key id ids
insert-agrees id [] = refl
insert-agrees id (x ∷ ids) =
    by-test id.0 x.0 (id ∷ (x ∷ ids)) (x ∷ ids) (x ∷ BTreeSet-insert SegmentId-cmp id ids)
    ∙ ap (cond (ltb id.0 x.0) (id ∷ (x ∷ ids))) (go (eqb id.0 x.0) refl (insert-agrees id ids))
  where
    go : (t : Bool) → eqb id.0 x.0 ≡ t → BTreeSet-insert SegmentId-cmp id ids ≡ insert id-key id ids
        → cond t (x ∷ ids) (x ∷ BTreeSet-insert SegmentId-cmp id ids) ≡ cond t (id ∷ ids) (x ∷ insert id-key id ids)
    go true e ih = ap (λ (y : SegmentId). y ∷ ids) (sym (same_id id x e))
    go false e ih = ap (λ (l : List SegmentId). x ∷ l) ih

-- ---- a map from ids

abbrev pub SegmentEntry : Type 0
SegmentEntry = Entry SegmentId AssignedSegment

abbrev pub entry_key : SegmentEntry → ℕ
entry_key e = e.key.0

pub map-insert-agrees : (id : SegmentId) (s : AssignedSegment) (m : List SegmentEntry)
    → BTreeMap-insert SegmentId-cmp id s m ≡ insert entry_key (entry id s) m
map-insert-agrees id s [] = refl
map-insert-agrees id s (e ∷ m) =
    by-test id.0 e.key.0 (entry id s ∷ (e ∷ m)) (entry e.key s ∷ m) (e ∷ BTreeMap-insert SegmentId-cmp id s m)
    ∙ ap (cond (ltb id.0 e.key.0) (entry id s ∷ (e ∷ m))) (go (eqb id.0 e.key.0) refl (map-insert-agrees id s m))
  where
    go : (t : Bool) → eqb id.0 e.key.0 ≡ t → BTreeMap-insert SegmentId-cmp id s m ≡ insert entry_key (entry id s) m
        → cond t (entry e.key s ∷ m) (e ∷ BTreeMap-insert SegmentId-cmp id s m)
        ≡ cond t (entry id s ∷ m) (e ∷ insert entry_key (entry id s) m)
    go true q ih = ap (λ (i : SegmentId). entry i s ∷ m) (sym (same_id id e.key q))
    go false q ih = ap (λ (l : List SegmentEntry). e ∷ l) ih

-- ---- entries that pass a test

pub filter-agrees : {A : Type 0} (test : A → Bool) (xs : List A) → filter test xs ≡ keyed.filter test xs
filter-agrees test [] = refl
filter-agrees test (x ∷ xs) = rw (filter-agrees test xs)
