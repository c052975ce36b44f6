-- Public: `BTreeSet` and `BTreeMap` of the Rust, as the standard library's documentation has them: the entries in the
-- order in which they are iterated, by the order of their keys.
-- Assumes nothing.
use Rattle.std.specs.Prelude.{Bool, false, cond, not, ◌||◌, List, [], ◌∷◌, Option, Some, None}
use Rattle.rust_magnetar.specs.Order.{Ordering, by_ordering, is_eq}
use Rattle.rust_magnetar.specs.Collections.{filter}

-- ---- BTreeSet<T>, where cmp is the order of T

module _ {T : Type 0} (cmp : T → T → Ordering) where
  -- .contains(&value): an element is equal to the value
  abbrev pub BTreeSet-contains : T → List T → Bool
  BTreeSet-contains value [] = false
  BTreeSet-contains value (x ∷ set) = is_eq (cmp value x) || BTreeSet-contains value set

  -- .insert(value), the set then: "If the set already contained an equal value, .. the entry is not updated."
  abbrev pub BTreeSet-insert : T → List T → List T
  BTreeSet-insert value [] = value ∷ []
  BTreeSet-insert value (x ∷ set) = by_ordering (cmp value x) (value ∷ (x ∷ set)) (x ∷ set) (x ∷ BTreeSet-insert value set)

  -- .insert(value), its answer: "Returns whether the value was newly inserted."
  abbrev pub BTreeSet-is-new : T → List T → Bool
  BTreeSet-is-new value set = not (BTreeSet-contains value set)

  -- .remove(&value), the set then; its answer is `BTreeSet-contains`: "Returns whether such an element was present."
  abbrev pub BTreeSet-remove : T → List T → List T
  BTreeSet-remove value set = filter (λ x. not (is_eq (cmp value x))) set

  -- .extend(values): one insert after another
  abbrev pub BTreeSet-extend : List T → List T → List T
  BTreeSet-extend set [] = set
  BTreeSet-extend set (value ∷ values) = BTreeSet-extend (BTreeSet-insert value set) values

  -- .collect()
  abbrev pub BTreeSet-from-iter : List T → List T
  BTreeSet-from-iter values = BTreeSet-extend [] values

-- ---- BTreeMap<K, A>, where cmp is the order of K

pub record Entry (K A : Type 0) : Type 0 where
  pub key : K
  pub value : A

abbrev pub entry : {K A : Type 0} → K → A → Entry K A
entry key value = record { key = key; value = value }

module _ {K A : Type 0} (cmp : K → K → Ordering) where
  -- .get(&key)
  abbrev pub BTreeMap-get : K → List (Entry K A) → Option A
  BTreeMap-get key [] = None
  BTreeMap-get key (e ∷ map) = cond (is_eq (cmp key e.key)) (Some e.value) (BTreeMap-get key map)

  -- .insert(key, value), the map then: "If the map did have this key present, the value is updated, .. The key is not
  -- updated, though"
  abbrev pub BTreeMap-insert : K → A → List (Entry K A) → List (Entry K A)
  BTreeMap-insert key value [] = entry key value ∷ []
  BTreeMap-insert key value (e ∷ map) =
      by_ordering (cmp key e.key) (entry key value ∷ (e ∷ map)) (entry e.key value ∷ map) (e ∷ BTreeMap-insert key value map)

  -- .extend(entries): one insert after another
  abbrev pub BTreeMap-extend : List (Entry K A) → List (Entry K A) → List (Entry K A)
  BTreeMap-extend map [] = map
  BTreeMap-extend map (e ∷ entries) = BTreeMap-extend (BTreeMap-insert e.key e.value map) entries

  -- .collect()
  abbrev pub BTreeMap-from-iter : List (Entry K A) → List (Entry K A)
  BTreeMap-from-iter entries = BTreeMap-extend [] entries
